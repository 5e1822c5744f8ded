-- Proof of an open goal, named after its place: `returns` is a return; `in-V` is the arm V of a `match`. `c` has the
-- facts that are known there: `c.F.ensures` is what the call of F ensures.
use Rattle.std.proofs.Common.{arith, refl}
use Rattle.hexfilter_core.specs.Dumps.{group_fill_after_all, location_after, text_from}
use Rattle.hexfilter_core.proofs.stage.Stage.new.Goals as goal

pub returns-in-Decode : goal.returns-in-Decode
unfolding text_from group_fill_after_all location_after
returns-in-Decode c = rw c.in-Decode.is (record {
  text = record { bytes = _; read = c.new.ensures.starts; output = grind arith };
  scanned = record { group_fill = refl; location = λ some short. (refl, refl) };
  count = refl;
})
