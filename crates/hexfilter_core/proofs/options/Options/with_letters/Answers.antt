-- Proofs of open goals, named after their places: `returns` is the return at the end; `then-F` is the `then` branch of
-- the `if` that tests F; `in_err-F` is the error that `?` returns after F; `L-preserved` is the invariant after an
-- iteration of the loop L. `c` has the facts that are known there: `c.F.ensures` is what the call of F ensures;
-- `c.F.result` is its result; `c.L` has the variables of the loop L and its invariant. `search` is a proof search.
use Rattle.std.proofs.Common.{◌≡◌, Err, Ok, sym, ◌∙◌, rules, arith}
use Rattle.std.proofs.lemmas.Bool.Decides.{nat_tests}
use Rattle.hexfilter_core.proofs.lemmas.Arguments.{first_letter, no_letter}
use Rattle.hexfilter_core.proofs.options.Options.with_letters.Goals as goal

pub returns-in_err-self : goal.returns-in_err-self
returns-in_err-self c =
    let same : c.from_residual.result ≡ Err c.in_err-self.field-0.0 = search (rules, c.from_residual.ensures) in
    same ∙ sym (first_letter c.loop-letters.self c.loop-letters.letters.now _ _ (Err c.in_err-self.field-0.0) (omega arith)
    c.split_at.ensures.front c.split_at.ensures.back (sym c.in_err-self.was ∙ c.with_option.ensures))
    ∙ c.loop-letters.invariant.1

pub returns-then-not-is_empty : goal.returns-then-not-is_empty
returns-then-not-is_empty c =
    let read = first_letter c.loop-letters.self c.loop-letters.letters.now _ _ (Ok c.in_ok-self.self) (omega arith)
    c.split_at.ensures.front c.split_at.ensures.back (sym c.in_ok-self.was ∙ c.with_option.ensures) in
    grind (arith, nat_tests, read)

pub loop-letters-preserved : goal.loop-letters-preserved
loop-letters-preserved c =
    let read = first_letter c.loop-letters.self c.loop-letters.letters.now _ _ (Ok c.in_ok-self.self) (omega arith)
    c.split_at.ensures.front c.split_at.ensures.back (sym c.in_ok-self.was ∙ c.with_option.ensures) in
    (search rules, grind (arith, nat_tests, read))

pub returns : goal.returns
returns c = sym (no_letter c.loop-letters.self c.loop-letters.letters.now (grind (arith, nat_tests)))
    ∙ c.loop-letters.invariant.1
