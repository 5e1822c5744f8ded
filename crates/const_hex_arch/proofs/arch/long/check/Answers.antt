-- Proofs of open goals, named after their places: `returns` is the return at the end; `L-preserved` is the invariant
-- after an iteration of the loop L; `-2` is the second one of that name. `c` has the facts that are known there:
-- `c.args` are the arguments; `c.F.ensures` is what the call of F ensures; `F-x` is a call whose result is named x;
-- `c.if-F` is the test of F; `c.L` has the variables of the loop L and its invariant. `g` has the type parameters and
-- their traits' members.
use Rattle.std.proofs.Common.{◌-◌, length, refl, arith}
use Rattle.const_hex_arch.proofs.lemmas.Standard.{through}
use Rattle.const_hex_arch.proofs.lemmas.Blocks.{digits_block, digits_last}
use Rattle.const_hex_arch.proofs.arch.long.check.Goals as goal

pub loop-index-preserved : goal.loop-index-preserved
loop-index-preserved g c = record {
  within = omega arith;
  digits = digits_block _ _ _ _ (omega arith) c.loop-index.invariant.digits (c.if-not-check_four_blocks.ensures.0 refl);
}

pub loop-index-2-preserved : goal.loop-index-2-preserved
loop-index-2-preserved g c = record {
  within = omega arith;
  digits = digits_block _ _ _ _ (omega arith) c.loop-index-2.invariant.digits (c.if-not-check_block-2.ensures.0 refl);
}

pub returns : goal.returns
returns g c =
    through c.check_block-2.ensures
    (digits_last c.args.text.now c.loop-index-2.index (length c.args.text.now - g.row.N) (omega arith) c.loop-index-2.invariant.digits)
