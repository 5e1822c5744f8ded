-- The invariant of the loop `fours`, and its measure, which decreases with each iteration. `l` has the live variables.
use Rattle.std.proofs.Common.{◌-◌, ◌≤◌, length, take}
use Rattle.const_hex.specs.Prelude.{AllDigits}
use Rattle.const_hex.proofs.codec.body.skip_digits_by_four.Given as goal

abbrev pub invariant-fours : goal.invariant-fours
invariant-fours l = AllDigits (take l.index l.text) × (l.index ≤ length l.text)

abbrev pub decreases-fours : goal.decreases-fours
decreases-fours l = length l.text - l.index
