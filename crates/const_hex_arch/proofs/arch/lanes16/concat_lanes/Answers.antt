-- Proof of the open goal `returns`: the clauses of the contract hold at the return. `c` has the facts that are known
-- there.
use Rattle.std.proofs.Common.{arith, length-append}
use Rattle.std.proofs.lemmas.Simd.{pick_l_whole}
use Rattle.const_hex_arch.proofs.arch.lanes16.concat_lanes.Goals as goal

pub returns : goal.returns
returns c = pick_l_whole 0 _ 32 (simp length-append (omega arith))
