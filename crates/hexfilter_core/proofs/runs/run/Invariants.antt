-- The invariant of the loop `chunks`. `l` has the live variables, `l.fn` the function's arguments. `g` has the type
-- parameters and their traits' members.
--
-- Terms of the contracts:
-- - `Appends before after bs`: bs was appended to what a writer holds
-- - `Consumes before after bs`: bs was read from what a reader has left
-- - `HasOutput m s x y`: s is the state of a run in the mode m after the input x, for which y was written
use Rattle.std.proofs.Common.{ℕ, List}
use Rattle.std.specs.Io.KnownBytes.{Appends, Consumes}
use Rattle.hexfilter_core.specs.Stages.{HasOutput}
use Rattle.hexfilter_core.proofs.runs.run.Given as goal

abbrev pub invariant-chunks : goal.invariant-chunks
invariant-chunks g l =
    (x : List ℕ) × (y : List ℕ) × HasOutput l.mode l.stage x y
    × Consumes (g.R.Read.remaining l.fn.input) (g.R.Read.remaining l.input) x
    × Appends (g.W.Write.contents l.fn.output) (g.W.Write.contents l.output) y
