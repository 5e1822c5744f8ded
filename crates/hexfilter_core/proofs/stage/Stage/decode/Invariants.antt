-- The invariant of the loop `bytes`. `l` has the live variables, `l.fn` the function's arguments.
--
-- Terms of the contracts:
-- - `HasDecoded r s x y`: s is the state of a run after the input x, for which y was written
use Rattle.std.proofs.Common.{◌≤◌, ◌++◌, ℕ, List, take}
use Rattle.hexfilter_core.specs.Stages.{HasDecoded}
use Rattle.hexfilter_core.proofs.stage.Stage.decode.Given as goal

abbrev pub invariant-bytes : goal.invariant-bytes
invariant-bytes l = record {
  fewer : l.end ≤ l.done;
  decoded : (x y : List ℕ) → HasDecoded l.reading l.fn.self x y
      → HasDecoded l.reading l.self (x ++ take l.done l.chunk) (y ++ take l.end l.output);
}
