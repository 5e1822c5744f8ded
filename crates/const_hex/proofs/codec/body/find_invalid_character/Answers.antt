-- Proof of the open goal `returns`: the clauses of the contract hold at the return. `c` has the facts that are known
-- there: `c.F.ensures` is what the call of F ensures; `F-x` is a call whose result is named x. `g` has the type
-- parameters and their traits' members.
use Rattle.const_hex.proofs.codec.body.find_invalid_character.Goals as goal

pub returns : goal.returns
returns g c = (c.requires.even, c.locate_invalid-c.ensures c.requires.invalid)
