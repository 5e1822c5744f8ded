-- Proof of the open goal `returns`: the clauses of the contract hold at the return. `c` has the facts that are known
-- there: `c.args` are the arguments.
use Rattle.const_hex_arch.proofs.lemmas.LaneValues.{are_clear}
use Rattle.const_hex_arch.proofs.arch.lanes16.MultiplyingLaneOps16.are_clear.Goals as goal

pub returns : goal.returns
returns c = are_clear 2 c.args.error_bits c.fits-error_bits
