-- Proof of an open goal, named after its place: `returns` is the return at the end; `clause-X` is the clause X of the
-- contract. `c` has the facts that are known there: `c.F.ensures` is what the call of F ensures. `g` has the type
-- parameters and their traits' members.
use Rattle.const_hex.proofs.lemmas.WriteSinks.{streamed_text}
use Rattle.const_hex.proofs.write_sink.WriteSink.write_hex.Goals as goal

pub returns-clause-text : goal.returns-clause-text
returns-clause-text g c = λ _. streamed_text g.W.Write.contents _ _ _ (rw c.new.ensures at c.write_to.ensures.streams)
