-- Proofs of open goals, named after their places: `returns` is a return; `in-V` is the arm V of a `match`;
-- `L-preserved` is the invariant after an iteration of the loop L. `c` has the facts that are known there:
-- `c.F.ensures` is what the call of F ensures; `c.L` has the variables of the loop L and its invariant.
use Rattle.std.proofs.Common.{Err, Ok, string_bytes, sym, ap, ◌∙◌}
use Rattle.hexfilter_core.proofs.lemmas.Arguments.{next_argument, read_back}
use Rattle.hexfilter_core.specs.Options.{request_for}
use Rattle.hexfilter_core.proofs.options.request_of.Goals as goal

pub returns-in-Err : goal.returns-in-Err
returns-in-Err c =
    let result_eq = sym
    (next_argument string_bytes _ _ _ (Err c.in-Err.kind) _ _ c.loop-index-test.true c.index-arguments-index.is
    c.as_str.ensures.value (sym c.in-Err.is ∙ c.with_argument.ensures)) ∙ c.loop-index.invariant in
    record {
      grammar = result_eq;
      read_back = λ m words writes same. result_eq ∙ ap request_for same ∙ read_back m words writes;
    }

pub loop-index-preserved : goal.loop-index-preserved
loop-index-preserved c =
    sym (next_argument string_bytes _ _ _ (Ok c.in-Ok.more) _ _ c.loop-index-test.true c.index-arguments-index.is
    c.as_str.ensures.value (sym c.in-Ok.is ∙ c.with_argument.ensures)) ∙ c.loop-index.invariant
