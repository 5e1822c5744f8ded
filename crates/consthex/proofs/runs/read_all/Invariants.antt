-- The invariant of the loop `reads`, and its measure, which decreases with each iteration. `l` has the live variables,
-- `l.initial` their values before the loop. `g` has the type parameters and their traits' members.
--
-- Terms of the contracts:
-- - `Consumes before after bs`: bs was read from what a reader has left
use Rattle.std.proofs.Common.{◌-◌, vec_len}
use Rattle.std.specs.Io.KnownBytes.{Consumes}
use Rattle.consthex.proofs.runs.read_all.Given as goal

abbrev pub invariant-reads : goal.invariant-reads
invariant-reads g l = Consumes (g.R.Read.remaining l.initial.input) (g.R.Read.remaining l.input) l.bytes.items

abbrev pub decreases-reads : goal.decreases-reads
decreases-reads g l = 1048577 - vec_len l.bytes
