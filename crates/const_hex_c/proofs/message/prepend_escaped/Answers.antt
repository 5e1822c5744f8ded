-- Proof of an open goal, named after its place: `returns` is a return; `in_default` is the last arm of a `match`;
-- `clause-X` is the clause X of the contract. `c` has the facts that are known there.
use Rattle.std.proofs.Common.{arith}
use Rattle.std.proofs.lemmas.Bool.Decides.{nat_tests}
use Rattle.std.specs.Char.{encode_utf8}
use Rattle.const_hex_c.proofs.message.prepend_escaped.Goals as goal

pub returns-in_default-clause-text : goal.returns-in_default-clause-text
unfolding encode_utf8
returns-in_default-clause-text c = grind (arith, nat_tests)
