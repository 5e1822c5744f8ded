-- The invariant of the loop `writes`. `l` has the live variables, `l.initial` their values before the loop. `g` has the
-- type parameters and their traits' members.
--
-- Terms of the contracts:
-- - `Appends before after bs`: bs was appended to what a writer holds
use Rattle.std.proofs.Common.{length, take, ◌≤◌}
use Rattle.std.specs.Io.KnownBytes.{Appends}
use Rattle.const_hex.proofs.write_sink.write_piece.Given as goal

abbrev pub invariant-writes : goal.invariant-writes
invariant-writes g l = record {
  within : l.done ≤ length l.piece;
  written : Appends (g.W.Write.contents l.initial.writer) (g.W.Write.contents l.writer) (take l.done l.piece);
}
