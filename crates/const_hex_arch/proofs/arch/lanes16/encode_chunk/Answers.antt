-- Proof of an open goal, named after its place: `returns` is the return at the end; `clause-X` is the clause X of the
-- contract. `c` has the facts that are known there: `c.F.ensures` is what the call of F ensures; `F-x` is a call whose
-- result is named x. `g` has the type parameters and their traits' members.
use Rattle.std.proofs.Common.{append-nil, ◌∙◌, arith}
use Rattle.const_hex_arch.proofs.lemmas.LaneText.{halves}
use Rattle.const_hex_arch.proofs.arch.lanes16.encode_chunk.Goals as goal

pub returns-clause-text : goal.returns-clause-text
returns-clause-text g c = rw append-nil (halves 16 _ (omega arith)) ∙ c.encode_lanes-text.ensures
