-- Proofs of open goals, named after their places: `returns` is a return; `then-F` is the `then` branch of the `if` that
-- tests F; `L-preserved` is the invariant after an iteration of the loop L; `clause-X` is the clause X of the contract;
-- `-2` is the second one of that name. `c` has the facts that are known there: `c.args` are the arguments;
-- `c.F.ensures` is what the call of F ensures; `F-x` is a call whose result is named x; `c.if-F` is the test of F;
-- `c.L` has the variables of the loop L and its invariant.
use Rattle.std.proofs.Common.{◌+◌, ◌≤◌, length, take, refl, arith}
use Rattle.const_hex.specs.Prelude.{AllDigits}
use Rattle.const_hex.proofs.lemmas.Searching.{two_more}
use Rattle.const_hex.proofs.codec.body.skip_digits_by_four.Goals as goal
use Rattle.const_hex.proofs.codec.body.skip_digits_by_four.Goals.{Else-not-is_digit_pair}

-- four bytes are left
long : (c : Else-not-is_digit_pair) → c.fours.index + 4 ≤ length c.args.text.now
long c = omega arith

-- the first two of them are digits
first_two : (c : Else-not-is_digit_pair) → AllDigits (take (c.fours.index + 2) c.args.text.now)
first_two c =
    let (first, second) = c.is_digit_pair.ensures.0 c.if-not-is_digit_pair.false in
    two_more c.args.text.now c.fours.index _ _ (omega (arith, long c)) refl (omega arith) first second
    c.fours.invariant.0

pub returns-then-not-is_digit_pair-2-clause-digits : goal.returns-then-not-is_digit_pair-2-clause-digits
returns-then-not-is_digit_pair-2-clause-digits c =
    first_two (goal.at.returns-then-not-is_digit_pair-2-clause-digits c).Else-not-is_digit_pair

pub fours-preserved : goal.fours-preserved
fours-preserved c =
    let before = (goal.at.fours-preserved c).Else-not-is_digit_pair in
    let (third, fourth) = c.is_digit_pair-in-fours.ensures.0 c.if-not-is_digit_pair-2.false in (
      two_more c.args.text.now (c.fours.index + 2) (c.fours.index + 3) (c.fours.index + 4) (omega (arith, long before))
          (omega arith) (omega arith) third fourth (first_two before),
      long before,
    )
