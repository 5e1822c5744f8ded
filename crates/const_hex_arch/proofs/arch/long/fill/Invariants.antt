-- The invariant of the loop `loop-index`, and its measure, which decreases with each iteration. `l` has the live
-- variables. `g` has the type parameters and their traits' members.
use Rattle.std.proofs.Common.{◌-◌, length}
use Rattle.const_hex_arch.proofs.lemmas.Blocks.{IsFilled}
use Rattle.const_hex_arch.proofs.arch.long.fill.Given as goal

abbrev pub invariant-loop-index : goal.invariant-loop-index
invariant-loop-index g l = IsFilled l.upper l.input l.output l.index

abbrev pub decreases-loop-index : goal.decreases-loop-index
decreases-loop-index g l = length l.input - l.index
