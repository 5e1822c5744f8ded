-- Proof of the open goal `returns`: the clauses of the contract hold at the return. `c` has the facts that are known
-- there: `c.F.ensures` is what the call of F ensures; `c.F.result` is its result; `F-x` is a call whose result is named
-- x. `g` has the type parameters and their traits' members.
use Rattle.std.proofs.Common.{◌∙◌, refl}
use Rattle.const_hex.proofs.codec.body.locate_invalid.Goals as goal

pub returns : goal.returns
returns g c = λ n.
    let found = c.find_first_invalid-byte.ensures in
    let body = c.strip_prefix-body.ensures.body in (
      c.find_first_invalid-byte.result.1,
      rw body at (found.invalid (rw (← body) at n)),
      c.from.ensures ∙ (rw body at found.byte),
      rw body refl,
    )
