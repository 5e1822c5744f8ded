-- Proofs of open goals, named after their places: `returns` is the return at the end; `L-init` is the invariant before
-- the loop L; `L-preserved` is the invariant after an iteration of the loop L. `c` has the facts that are known there:
-- `c.args` are the arguments; `c.F.ensures` is what the call of F ensures; `F-x` is a call whose result is named x;
-- `c.L` has the variables of the loop L and its invariant. `g` has the type parameters and their traits' members.
use Rattle.std.proofs.Common.{◌-◌, length, arith}
use Rattle.const_hex_arch.proofs.lemmas.Blocks.{none_filled, filled_block, filled_less, filled_rest}
use Rattle.const_hex_arch.proofs.arch.long.fill.Goals as goal

pub loop-index-init : goal.loop-index-init
loop-index-init g c = none_filled c.requires.size

pub loop-index-preserved : goal.loop-index-preserved
loop-index-preserved g c = grind (arith, filled_block)

pub returns : goal.returns
returns g c =
    filled_rest _ (filled_less (length c.args.input.now - g.row.N) c.loop-index.invariant (omega arith)) c.fill_block-2.ensures
