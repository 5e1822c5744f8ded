-- The invariant of the loop `runs`, and its measure, which decreases with each iteration. `l` has the live variables,
-- `l.fn` the function's arguments.
--
-- Terms of the contracts:
-- - `HasScanned r s x`: s is the state of the scanner after the input x
-- - `HasAdded r s x u v`: the bytes u, after the input x, add v to the text
use Rattle.std.proofs.Common.{◌-◌, ◌≤◌, List, ℕ, length, take}
use Rattle.hexfilter_core.specs.Stages.{HasAdded, HasScanned}
use Rattle.hexfilter_core.proofs.scanner.Scanner.scan.Given as goal

abbrev pub invariant-runs : goal.invariant-runs
invariant-runs l = record {
  within : l.done ≤ length l.chunk;
  fewer : l.end ≤ l.done;
  so_far : (x : List ℕ) → HasScanned l.reading l.fn.self x
      → HasAdded l.reading l.scanner x (take l.done l.chunk) (take l.end l.output);
}

abbrev pub decreases-runs : goal.decreases-runs
decreases-runs l = length l.chunk - l.done
