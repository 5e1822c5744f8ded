-- The invariant of the loop `flushes`. `l` has the live variables, `l.initial` their values before the loop. `g` has
-- the type parameters and their traits' members.
--
-- Terms of the contracts:
-- - `Keeps before after`: these bytes did not change
use Rattle.std.specs.Io.KnownBytes.{Keeps}
use Rattle.hexfilter_core.proofs.transfer.flush.Given as goal

abbrev pub invariant-flushes : goal.invariant-flushes
invariant-flushes g l = Keeps (g.W.Write.contents l.initial.output) (g.W.Write.contents l.output)
