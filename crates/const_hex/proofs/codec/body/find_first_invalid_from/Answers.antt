-- Proofs of open goals, named after their places: `returns` is the return at the end; `then-F` is the `then` branch of
-- the `if` that tests F; `L-preserved` is the invariant after an iteration of the loop L; `clause-X` is the clause X of
-- the contract. `c` has the facts that are known there: `c.args` are the arguments; `c.F.ensures` is what the call of F
-- ensures; `c.F.result` is its result; `c.if-F` is the test of F; `c.L` has the variables of the loop L and its
-- invariant.
use Rattle.std.proofs.Common.{◌∙◌, get_or, arith}
use Rattle.std.proofs.lemmas.List.{take_all}
use Rattle.const_hex.specs.Prelude.{AllDigits}
use Rattle.const_hex_arch.proofs.lemmas.Digits.{value_not_found, digits_more}
use Rattle.const_hex.proofs.codec.body.find_first_invalid_from.Goals as goal

pub returns-then-value_at-clause-invalid : goal.returns-then-value_at-clause-invalid
returns-then-value_at-clause-invalid c = λ _. record {
  within = omega (arith, c.digits-test.true);
  before = c.digits.invariant.0;
  here = value_not_found (get_or c.args.text.now c.digits.index 0) c.value_at.result c.value_at.ensures
      c.if-value_at.true;
}

pub digits-preserved : goal.digits-preserved
digits-preserved c =
    let inside = c.digits-test.true in (
      digits_more c.args.text.now c.digits.index c.digits.invariant.0 (omega (arith, inside))
          (λ e. c.if-value_at.false (c.value_at.ensures ∙ e)),
      omega (arith, inside),
    )

-- at the end of the loop all bytes were digits
all : (c : goal.After-digits) → AllDigits c.args.text.now
all c = rw (take_all c.digits.index c.args.text.now (omega (arith, c.digits-test.false))) at c.digits.invariant.0

pub returns-clause-invalid : goal.returns-clause-invalid
returns-clause-invalid c = λ n. absurd (n (all c))

pub returns-clause-all : goal.returns-clause-all
returns-clause-all c = (λ _. all c, λ _. omega (arith, c.digits-test.false, c.digits.invariant.1))
