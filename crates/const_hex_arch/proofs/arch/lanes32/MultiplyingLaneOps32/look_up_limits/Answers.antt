-- Proof of the open goal `returns`: the clauses of the contract hold at the return. `c` has the facts that are known
-- there: `c.args` are the arguments; `c.F.ensures` is what the call of F ensures; `F-x` is a call whose result is named
-- x.
use Rattle.const_hex_arch.specs.{IsLimitOf}
use Rattle.const_hex_arch.proofs.lemmas.LaneText.{by_halves}
use Rattle.const_hex_arch.proofs.arch.lanes32.MultiplyingLaneOps32.look_up_limits.Goals as goal

pub returns : goal.returns
returns c = rw c.concat_lanes.ensures
    (by_halves IsLimitOf 16 c.args.v _ _ c.fits-v.0 c.look_up_limits-first.ensures c.look_up_limits-second.ensures)
