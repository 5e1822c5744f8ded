-- Proof of the open goal `returns`: the clauses of the contract hold at the return. `c` has the facts that are known
-- there: `c.args` are the arguments; `c.F.ensures` is what the call of F ensures. `g` has the type parameters and their
-- traits' members.
use Rattle.const_hex_arch.proofs.lemmas.LaneValues.{clear_are_digits}
use Rattle.const_hex_arch.proofs.arch.lanes.error_bits.Goals as goal

pub returns : goal.returns
returns g c = rw (← c.fits-v.0) (clear_are_digits c.args.v _ c.values.ensures)
