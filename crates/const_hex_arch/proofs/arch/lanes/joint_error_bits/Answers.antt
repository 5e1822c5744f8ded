-- Proof of the open goal `returns`: the clauses of the contract hold at the return. `c` has the facts that are known
-- there: `c.F.ensures` is what the call of F ensures; `F-x` is a call whose result is named x. `g` has the type
-- parameters and their traits' members.
use Rattle.std.proofs.Common.{arith}
use Rattle.const_hex_arch.proofs.lemmas.LaneValues.{joint_test}
use Rattle.const_hex_arch.proofs.arch.lanes.joint_error_bits.Goals as goal

pub returns : goal.returns
returns g c = joint_test _ _ _ _ (omega arith) c.error_bits.ensures c.error_bits-2.ensures
