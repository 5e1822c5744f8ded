-- Proofs of open goals, named after their places: `returns` is a return; `then-F` is the `then` branch of the `if` that
-- tests F; `else-F` is its `else` branch. `c` has the facts that are known there. `g` has the type parameters and their
-- traits' members.
use Rattle.std.proofs.Common.{◌+◌, ◌*◌, ◌/◌, ◌%◌, true, false, get_or, arith}
use Rattle.const_hex_arch.specs.{hex_digit}
use Rattle.const_hex_arch.specs.declared.tables.TheConstants.{PAIRS_LOWER, PAIRS_UPPER}
use Rattle.const_hex_arch.proofs.lemmas.Standard.{same_below}
use Rattle.const_hex_arch.proofs.tables.digits_at.Goals as goal

pub returns-then-upper : goal.returns-then-upper
returns-then-upper g c =
    let high = same_below (λ b. get_or PAIRS_UPPER.now (2 * b) 0) (λ b. hex_digit true (b / 16)) 256 tt in
    let low = same_below (λ b. get_or PAIRS_UPPER.now (2 * b + 1) 0) (λ b. hex_digit true (b % 16)) 256 tt in
    grind (arith, high, low)

pub returns-else-upper : goal.returns-else-upper
returns-else-upper g c =
    let high = same_below (λ b. get_or PAIRS_LOWER.now (2 * b) 0) (λ b. hex_digit false (b / 16)) 256 tt in
    let low = same_below (λ b. get_or PAIRS_LOWER.now (2 * b + 1) 0) (λ b. hex_digit false (b % 16)) 256 tt in
    grind (arith, high, low)
