-- Proofs of open goals, named after their places: `then-F` is the `then` branch of the `if` that tests F; `L-preserved`
-- is the invariant after an iteration of the loop L. `c` has the facts that are known there: `c.args` are the
-- arguments; `c.F.ensures` is what the call of F ensures; `c.F.result` is its result; `c.F.new` is what it has changed;
-- `F-x` is a call whose result is named x; `c.if-F` is the test of F; `c.L` has the variables of the loop L and its
-- invariant.
use Rattle.std.proofs.Common.{◌≡◌, ◌∙◌, ◌+◌, ◌-◌, ◌++◌, take, drop, ap, arith, take-take}
use Rattle.hexfilter_core.proofs.lemmas.Groups.{more_in_group, puts_more}
use Rattle.hexfilter_core.proofs.lemmas.Texts.{take_put}
use Rattle.hexfilter_core.proofs.groups.put_groups.Goals as goal

pub groups-preserved : goal.groups-preserved
groups-preserved c =
    let written = c.groups.invariant in
    let separated = c.separate-start.ensures in
    let text = c.args.text.now in
    let done = c.groups.done in
    let count = c.min-count.result in
    let new = c.copy_from_slice.new.self in
    let same : done + count - done ≡ count = omega arith in
    let copied : take count new ≡ take count (drop done text) =
    rw (c.copy_from_slice.ensures.after, same) (take-take count count (drop done text) (omega arith)) in
    let put = take_put _ _ count _ new (omega arith) (omega arith)
    ∙ ap (λ l. take c.separate-start.result.0 c.separate-start.new.output ++ l) copied in record {
      within = omega arith;
      space = omega (arith, separated.within);
      group_fill = omega (arith, separated.group_fill);
      groups = more_in_group _ _ _ text done count _ (λ rest some. written.groups rest ∙ separated.groups rest some)
          (omega arith) (omega arith) (omega arith) _ put;
    }

pub groups-preserved-then-text-done-gt-BLOCK : goal.groups-preserved-then-text-done-gt-BLOCK
groups-preserved-then-text-done-gt-BLOCK c =
    let written = c.groups.invariant in
    let put = c.put_short-taken.ensures in record {
      within = omega arith;
      space = omega arith;
      group_fill = omega arith;
      groups = rw c.if-group_fill-groups.true (puts_more c.args.groups c.args.group_fill _ _ c.args.text.now c.groups.done _
          c.groups.output c.put_short-taken.new.output c.groups.end _ _ (omega arith) (omega arith) (omega arith)
          (rw c.if-group_fill-groups.true at written.groups) put.groups);
    }
