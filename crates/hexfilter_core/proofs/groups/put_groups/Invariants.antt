-- The invariant of the loop `groups`, and its measure, which decreases with each iteration. `l` has the live variables,
-- `l.initial` their values before the loop.
--
-- Terms of the contracts:
-- - `PutsInto g k t y m`: the text t is written in the groups g as y, if the first group has k characters already;
--   the last one then has m
use Rattle.std.proofs.Common.{◌-◌, ◌*◌, ◌≤◌, length, take}
use Rattle.hexfilter_core.specs.Dumps.{PutsInto}
use Rattle.hexfilter_core.proofs.groups.put_groups.Given as goal

abbrev pub invariant-groups : goal.invariant-groups
invariant-groups l = record {
  within : l.done ≤ length l.text;
  space : l.end ≤ 2 * l.done;
  group_fill : l.group_fill ≤ l.groups.size;
  groups : PutsInto l.groups l.initial.group_fill (take l.done l.text) (take l.end l.output) l.group_fill;
}

abbrev pub decreases-groups : goal.decreases-groups
decreases-groups l = length l.text - l.done
