-- The invariants of the loops, and its measure, which decreases with each iteration. `l` has the live variables, `l.fn`
-- the function's arguments. `g` has the type parameters and their traits' members.
use Rattle.std.proofs.Common.{◌-◌, length}
use Rattle.const_hex_arch.proofs.lemmas.Blocks.{IsDecoded}
use Rattle.const_hex_arch.proofs.arch.long.decode_before_invalid.Given as goal

abbrev pub invariant-loop-output : goal.invariant-loop-output
invariant-loop-output g l = IsDecoded l.text l.fn.output l.output l.index

abbrev pub decreases-loop-output : goal.decreases-loop-output
decreases-loop-output g l = length l.output - l.index

abbrev pub invariant-loop-output-2 : goal.invariant-loop-output-2
invariant-loop-output-2 g l = IsDecoded l.text l.fn.output l.output l.index

abbrev pub decreases-loop-output-2 : goal.decreases-loop-output-2
decreases-loop-output-2 g l = length l.output - l.index
