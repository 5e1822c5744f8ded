-- Proofs of open goals, named after their places: `returns` is the return at the end; `L-init` is the invariant before
-- the loop L; `L-preserved` is the invariant after an iteration of the loop L; `clause-X` is the clause X of the
-- contract. `c` has the facts that are known there: `c.args` are the arguments; `c.L` has the variables of the loop L
-- and its invariant.
use Rattle.std.proofs.Common.{◌≡◌, ◌+◌, ◌-◌, ◌/◌, ◌%◌, [], ◌∷◌, length, decimal, refl, ap, ◌∙◌, arith, append-nil, append_assoc, length-append}
use Rattle.std.proofs.lemmas.Fmt.{decimal_digit, decimal_nonempty, decimal_step, length-decimal-le}
use Rattle.std.proofs.lemmas.List.{drop-set, drop_all, length-set}
use Rattle.const_hex_c.proofs.message.prepend_decimal.Goals as goal

pub digits-init : goal.digits-init
digits-init c = record {
  within = omega arith;
  size = omega arith;
  at_most_20 = length-decimal-le 20 c.args.number (omega arith) (omega arith) c.ranges.number.fits;
  start = refl;
  digits = rw (drop_all 59 c.args.space.now (omega arith), append-nil);
}

pub digits-preserved : goal.digits-preserved
digits-preserved c =
    let l = c.digits in
    let step = decimal_step l.quotient (omega arith) (omega (arith, l.auto.quotient-fits.fits)) in
    let length_step = ap length step ∙ length-append (decimal (l.quotient / 10)) ((48 + l.quotient % 10) ∷ []) in
    let e : l.start - 1 + 1 ≡ l.start = omega arith in record {
      within = omega arith;
      size = omega (arith, length-set l.space (l.start - 1) (48 + l.quotient % 10));
      at_most_20 = l.invariant.at_most_20;
      start = omega arith;
      digits = rw (drop-set l.space (l.start - 1) _ (omega arith), e) (rw (step, append_assoc) at l.invariant.digits);
    }

pub returns-clause-start : goal.returns-clause-start
returns-clause-start c =
    let some = decimal_nonempty c.digits.quotient (omega (arith, c.digits.auto.quotient-fits.fits)) in
    (omega arith, omega arith)

pub returns-clause-digits : goal.returns-clause-digits
returns-clause-digits c =
    let l = c.digits in
    let e : l.start - 1 + 1 ≡ l.start = omega arith in
    rw (drop-set l.space (l.start - 1) _ (omega arith), e)
    (rw (decimal_digit l.quotient (omega arith)) at l.invariant.digits)
