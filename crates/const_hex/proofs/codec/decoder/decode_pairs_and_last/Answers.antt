-- Proofs of open goals, named after their places: `returns` is a return; `then-F` is the `then` branch of the `if` that
-- tests F; `else-F` is its `else` branch; `clause-X` is the clause X of the contract. `c` has the facts that are known
-- there: `c.args` are the arguments; `c.F.ensures` is what the call of F ensures; `F-x` is a call whose result is named
-- x; `c.if-F` is the test of F. `g` has the type parameters and their traits' members.
use Rattle.std.proofs.Common.{refl, arith, length, ◌*◌}
use Rattle.const_hex_arch.proofs.lemmas.Digits.{digits_parts}
use Rattle.const_hex_arch.proofs.lemmas.Texts.{Spells-digits}
use Rattle.const_hex.proofs.lemmas.Decoding.{last_rejected, pairs_rejected}
use Rattle.const_hex.proofs.codec.decoder.decode_pairs_and_last.Goals as goal

pub returns-then-decode_body-clause-digits : goal.returns-then-decode_body-clause-digits
returns-then-decode_body-clause-digits g c = λ h.
    let s = rw c.split_at.ensures.front at (c.if-decode_body.ensures.spells refl) in
    (digits_parts (2 * length c.args.output.now) c.args.digits.now).1
    (Spells-digits _ _ s, rw c.split_at.ensures.back at (c.check_last.ensures.0 h))

pub returns-then-decode_body-clause-invalid : goal.returns-then-decode_body-clause-invalid
returns-then-decode_body-clause-invalid g c = grind (arith, last_rejected)

pub returns-else-decode_body-clause-invalid : goal.returns-else-decode_body-clause-invalid
returns-else-decode_body-clause-invalid g c = grind (arith, pairs_rejected)
