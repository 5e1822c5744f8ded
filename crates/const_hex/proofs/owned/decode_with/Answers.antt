-- Proof of the open goal `returns`: the clauses of the contract hold at the return. `c` has the facts that are known
-- there. `g` has the type parameters and their traits' members. `search` is a proof search.
use Rattle.std.proofs.Common.{rules}
use Rattle.const_hex.proofs.lemmas.RoundTrip.{Decodes-from}
use Rattle.const_hex.proofs.owned.decode_with.Goals as goal

pub returns : goal.returns
returns g c = search (rules, Decodes-from)
