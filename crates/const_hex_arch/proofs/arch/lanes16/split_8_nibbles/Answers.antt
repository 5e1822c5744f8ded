-- Proof of the open goal `returns`: the clauses of the contract hold at the return. `c` has the facts that are known
-- there: `c.args` are the arguments.
use Rattle.const_hex_arch.proofs.lemmas.LaneText.{of_lanes}
use Rattle.const_hex_arch.proofs.arch.lanes16.split_8_nibbles.Goals as goal

pub returns : goal.returns
returns c = of_lanes 8 c.args.v c.fits-v
