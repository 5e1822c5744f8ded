-- Proof of an open goal, named after its place: `returns` is a return; `then-F` is the `then` branch of the `if` that
-- tests F. `c` has the facts that are known there: `c.args` are the arguments; `c.if-F` is the test of F.
use Rattle.std.proofs.Common.{refl}
use Rattle.hexfilter_core.proofs.lemmas.Locations.{location_after_newline}
use Rattle.hexfilter_core.proofs.location.Location.after.Goals as goal

pub returns-then-byte-eq10 : goal.returns-then-byte-eq10
returns-then-byte-eq10 c = λ x located. rw c.if-byte-eq10.true (location_after_newline x c.args.self _ located refl)
