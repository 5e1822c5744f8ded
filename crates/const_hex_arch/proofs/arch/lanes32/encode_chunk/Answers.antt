-- Proof of an open goal, named after its place: `returns` is the return at the end; `clause-X` is the clause X of the
-- contract. `c` has the facts that are known there: `c.args` are the arguments; `c.F.ensures` is what the call of F
-- ensures; `F-x` is a call whose result is named x. `g` has the type parameters and their traits' members.
use Rattle.std.proofs.lemmas.List.{append-nil}
use Rattle.const_hex_arch.proofs.lemmas.LaneText.{text_of_halves}
use Rattle.const_hex_arch.proofs.arch.lanes32.encode_chunk.Goals as goal

pub returns-clause-text : goal.returns-clause-text
returns-clause-text g c =
    rw append-nil (text_of_halves 16 _ c.args.v _ _ c.fits-v.0 c.encode_lanes-first.ensures c.encode_lanes-second.ensures)
