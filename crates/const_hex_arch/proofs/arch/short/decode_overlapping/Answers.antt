-- Proof of an open goal, named after its place: `returns` is a return; `then-F` is the `then` branch of the `if` that
-- tests F; `clause-X` is the clause X of the contract. `c` has the facts that are known there: `c.args` are the
-- arguments; `c.F.ensures` is what the call of F ensures; `c.F.result` is its result; `F-x` is a call whose result is
-- named x. `g` has the type parameters and their traits' members.
use Rattle.std.proofs.Common.{◌≡◌, ◌++◌, ◌*◌, length, take, length-take, refl, arith}
use Rattle.std.proofs.lemmas.List.{take-append-le}
use Rattle.const_hex_arch.specs.{AllDigits}
use Rattle.const_hex_arch.proofs.lemmas.Digits.{digits_append}
use Rattle.const_hex_arch.proofs.lemmas.Blocks.{spells_first_and_last}
use Rattle.const_hex_arch.proofs.arch.short.decode_overlapping.Goals as goal

pub returns-then-are_digits-clause-spells : goal.returns-then-are_digits-clause-spells
returns-then-are_digits-clause-spells g c = λ t.
    let count = 2 * g.row.H in
    let lanes = c.load_first_and_last-ends.result in
    let digits : AllDigits lanes = c.are_digits-are_digits.ensures.0 t in
    let pair : AllDigits (lanes ++ lanes) = (digits_append lanes lanes).1 (digits, digits) in
    let first : take (2 * count) (lanes ++ lanes) ≡ take (2 * count) lanes = take-append-le (2 * count) lanes lanes (omega arith) in
    rw c.copy_first_and_last.ensures
    (spells_first_and_last g.row.H count (length c.args.output.now) c.args.text.now (lanes ++ lanes) _ _ refl c.requires.size
    c.requires.least c.requires.most (rw first c.load_first_and_last-ends.ensures.ends) (c.decode.ensures pair) refl
    (omega (arith, length-take count c.decode.result)))
