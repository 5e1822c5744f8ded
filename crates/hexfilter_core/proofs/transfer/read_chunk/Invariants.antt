-- The invariant of the loop `reads`. `l` has the live variables, `l.initial` their values before the loop. `g` has the
-- type parameters and their traits' members.
--
-- Terms of the contracts:
-- - `Keeps before after`: these bytes did not change
use Rattle.std.specs.Io.KnownBytes.{Keeps}
use Rattle.hexfilter_core.proofs.transfer.read_chunk.Given as goal

abbrev pub invariant-reads : goal.invariant-reads
invariant-reads g l = Keeps (g.R.Read.remaining l.initial.input) (g.R.Read.remaining l.input)
