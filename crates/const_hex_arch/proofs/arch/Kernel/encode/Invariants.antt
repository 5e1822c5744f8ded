-- The invariant of the loop `loop-rest`, and its measure, which decreases with each iteration. `l` has the live
-- variables, `l.initial` their values before the loop. `g` has the type parameters and their traits' members.
use Rattle.std.proofs.Common.{length}
use Rattle.const_hex_arch.proofs.lemmas.Blocks.{IsWritten}
use Rattle.const_hex_arch.proofs.arch.Kernel.encode.Given as goal

abbrev pub invariant-loop-rest : goal.invariant-loop-rest
invariant-loop-rest g l =
    IsWritten g.O.Output.step g.O.Output.space l.upper l.input l.initial.output l.output l.rest

abbrev pub decreases-loop-rest : goal.decreases-loop-rest
decreases-loop-rest g l = length l.rest
