-- Proofs of open goals, named after their places: `returns` is the return at the end; `L-preserved` is the invariant
-- after an iteration of the loop L. `c` has the facts that are known there: `c.F.ensures` is what the call of F
-- ensures; `F-x` is a call whose result is named x; `c.L` has the variables of the loop L and its invariant. `g` has
-- the type parameters and their traits' members.
use Rattle.std.proofs.Common.{◌-◌, length, arith}
use Rattle.const_hex_arch.proofs.lemmas.Blocks.{decoded_block, decoded_less, spells_rest}
use Rattle.const_hex_arch.proofs.arch.long.decode_unchecked.Goals as goal

pub loop-output-preserved : goal.loop-output-preserved
loop-output-preserved g c =
    decoded_block _ _ _ c.loop-output.invariant (omega arith) c.decode_unchecked_block.ensures

pub returns : goal.returns
returns g c =
    let start = length c.loop-output.output - g.row.N in
    spells_rest _ (decoded_less start c.loop-output.invariant (omega arith)) (omega arith) (omega arith)
    c.decode_unchecked_block-2.ensures
