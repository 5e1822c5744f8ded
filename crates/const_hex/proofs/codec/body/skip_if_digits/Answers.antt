-- Proof of an open goal, named after its place: `returns` is a return; `then-F` is the `then` branch of the `if` that
-- tests F; `clause-X` is the clause X of the contract. `c` has the facts that are known there: `c.F.ensures` is what
-- the call of F ensures; `F-x` is a call whose result is named x; `c.if-F` is the test of F. `g` has the type
-- parameters and their traits' members.
use Rattle.std.proofs.Common.{refl, arith}
use Rattle.const_hex_arch.proofs.lemmas.Blocks.{digits_block}
use Rattle.const_hex.proofs.codec.body.skip_if_digits.Goals as goal

pub returns-then-check-clause-digits : goal.returns-then-check-clause-digits
returns-then-check-clause-digits g c = digits_block _ _ _ _ (omega arith) c.requires.digits (c.if-check.ensures.0 refl)
