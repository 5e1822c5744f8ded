-- Proof of an open goal, named after its place: `L-preserved` is the invariant after an iteration of the loop L. `c`
-- has the facts that are known there: `c.args` are the arguments; `c.F.ensures` is what the call of F ensures;
-- `c.F.new` is what it has changed; `F-x` is a call whose result is named x; `c.L` has the variables of the loop L and
-- its invariant.
use Rattle.std.proofs.Common.{arith}
use Rattle.hexfilter_core.proofs.lemmas.Groups.{puts_more}
use Rattle.hexfilter_core.proofs.groups.put_short.Goals as goal

pub groups-preserved : goal.groups-preserved
groups-preserved c =
    let i = c.groups.invariant in
    let block = c.put_block-taken.ensures in record {
      within = omega arith;
      space = omega arith;
      groups = puts_more c.args.groups _ _ _ c.args.text.now c.groups.done _ c.groups.output
          c.put_block-taken.new.output c.groups.end _ _ (omega arith) (omega arith) (omega arith) i.groups block.groups;
    }
