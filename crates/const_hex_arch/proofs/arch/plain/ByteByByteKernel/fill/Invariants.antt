-- The invariant of the loop `loop-i`. `l` has the live variables. `g` has the type parameters and their traits'
-- members.
use Rattle.const_hex_arch.proofs.lemmas.Blocks.{IsFilled}
use Rattle.const_hex_arch.proofs.arch.plain.ByteByByteKernel.fill.Given as goal

abbrev pub invariant-loop-i : goal.invariant-loop-i
invariant-loop-i g l = IsFilled l.upper l.input l.text l.i
