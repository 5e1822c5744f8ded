-- The invariant of the loop `loop-letters`, and its measure, which decreases with each iteration. `l` has the live
-- variables, `l.fn` the function's arguments.
use Rattle.std.proofs.Common.{◌≡◌, length}
use denote.Text.{Utf8}
use denote.Shadow.{shadow}
use Rattle.hexfilter_core.specs.Options.{with_letters}
use Rattle.hexfilter_core.proofs.options.Options.with_letters.Given as goal

abbrev pub invariant-loop-letters : goal.invariant-loop-letters
invariant-loop-letters l = shadow (Utf8 l.letters) × (with_letters l.self l.letters ≡ with_letters l.fn.self l.fn.text)

abbrev pub decreases-loop-letters : goal.decreases-loop-letters
decreases-loop-letters l = length l.letters
