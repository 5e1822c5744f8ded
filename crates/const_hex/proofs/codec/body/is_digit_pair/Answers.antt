-- Proof of the open goal `returns`: the clauses of the contract hold at the return. `c` has the facts that are known
-- there: `c.args` are the arguments; `c.F.ensures` is what the call of F ensures; `F-x` is a call whose result is named
-- x.
use Rattle.const_hex.proofs.lemmas.Searching.{both_digits}
use Rattle.const_hex.proofs.codec.body.is_digit_pair.Goals as goal

pub returns : goal.returns
returns c = both_digits c.args.first c.args.second _ _ c.value_at.ensures c.value_at-2.ensures
