-- The invariants of the loops, and its measure, which decreases with each iteration. `l` has the live variables. `g`
-- has the type parameters and their traits' members.
use Rattle.std.proofs.Common.{◌-◌, ◌≤◌, length, take}
use Rattle.const_hex_arch.specs.{AllDigits}
use Rattle.const_hex_arch.proofs.arch.long.check.Given as goal

abbrev pub invariant-loop-index : goal.invariant-loop-index
invariant-loop-index g l = record { within : l.index ≤ length l.text; digits : AllDigits (take l.index l.text) }

abbrev pub decreases-loop-index : goal.decreases-loop-index
decreases-loop-index g l = length l.text - l.index

abbrev pub invariant-loop-index-2 : goal.invariant-loop-index-2
invariant-loop-index-2 g l = record { within : l.index ≤ length l.text; digits : AllDigits (take l.index l.text) }

abbrev pub decreases-loop-index-2 : goal.decreases-loop-index-2
decreases-loop-index-2 g l = length l.text - l.index
