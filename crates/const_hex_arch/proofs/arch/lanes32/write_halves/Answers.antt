-- Proof of the open goal `returns`: the clauses of the contract hold at the return. `c` has the facts that are known
-- there: `c.args` are the arguments; `c.F.ensures` is what the call of F ensures; `F-x` is a call whose result is named
-- x. `g` has the type parameters and their traits' members.
use Rattle.const_hex_arch.proofs.lemmas.LaneText.{text_of_halves}
use Rattle.const_hex_arch.proofs.arch.lanes32.write_halves.Goals as goal

pub returns : goal.returns
returns g c =
    text_of_halves 16 c.args.upper c.args.v _ _ c.fits-v.0 c.write_digits.ensures c.write_digits-2.ensures
