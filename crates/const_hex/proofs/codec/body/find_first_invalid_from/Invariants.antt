-- The invariant of the loop `digits`, and its measure, which decreases with each iteration. `l` has the live variables.
use Rattle.std.proofs.Common.{◌-◌, ◌≤◌, length, take}
use Rattle.const_hex.specs.Prelude.{AllDigits}
use Rattle.const_hex.proofs.codec.body.find_first_invalid_from.Given as goal

abbrev pub invariant-digits : goal.invariant-digits
invariant-digits l = AllDigits (take l.index l.text) × (l.index ≤ length l.text)

abbrev pub decreases-digits : goal.decreases-digits
decreases-digits l = length l.text - l.index
