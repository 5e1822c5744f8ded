-- Proof of the open goal `returns`: the clauses of the contract hold at the return. `c` has the facts that are known
-- there: `c.args` are the arguments.
use Rattle.const_hex_arch.proofs.lemmas.LaneValues.{merge_all}
use Rattle.const_hex_arch.proofs.arch.lanes32.pack.Goals as goal

pub returns : goal.returns
returns c = merge_all 32 c.args.nibbles c.fits-nibbles.0
