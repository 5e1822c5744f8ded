-- Proof of the open goal `returns`: the clauses of the contract hold at the return. `c` has the facts that are known
-- there: `c.args` are the arguments; `c.F.ensures` is what the call of F ensures; `F-x` is a call whose result is named
-- x.
use Rattle.std.proofs.Common.{◌≡◌, ◌+◌, ◌*◌, ◌%◌, ℕ, nat_lt, bit_or, arith, refl}
use Rattle.std.proofs.lemmas.Bool.{agree_below_at}
use Rattle.std.proofs.lemmas.Bool.Decides.{nat_tests}
use Prim.Native.Nat.{min}
use Rattle.const_hex_arch.specs.{hex_value, value_or_nil}
use Rattle.const_hex_arch.proofs.lemmas.Digits.{value_found, digit_small, IsDigit-from_value}
use Rattle.const_hex_arch.proofs.tables.is_digit.Goals as goal

-- the lesser of both products
abbrev least : ℕ → ℕ
least b = min ((b + 4294967248) % 4294967296 * 3 % 4294967296) ((bit_or b 32 + 4294967199) % 4294967296 * 5 % 4294967296)

pub returns : goal.returns
returns c =
    let b = c.args.byte in
    let same : nat_lt (least b) 30 ≡ nat_lt (value_or_nil (hex_value b)) 255 =
    agree_below_at (λ b. nat_lt (least b) 30) (λ b. nat_lt (value_or_nil (hex_value b)) 255) 256 b refl c.ranges.byte.fits in
    rw (c.min.ensures, c.from-letter.ensures, c.from-decimal.ensures, same)
    (grind (arith, nat_tests, value_found b _ refl, digit_small b _ refl, IsDigit-from_value b))
