-- The invariant of the loop `loop-b`. `l` has the live variables. `g` has the type parameters and their traits'
-- members.
use Rattle.std.proofs.Common.{take}
use Rattle.const_hex_arch.specs.{AllDigits}
use Rattle.const_hex_arch.proofs.arch.plain.ByteByByteKernel.check.Given as goal

abbrev pub invariant-loop-b : goal.invariant-loop-b
invariant-loop-b g l = AllDigits (take l.b-index l.input)
