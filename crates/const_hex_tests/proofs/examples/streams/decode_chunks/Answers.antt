-- Proof of an open goal, named after its place: `returns` is the return at the end; `clause-X` is the clause X of the
-- contract. `c` has the facts that are known there: `c.F.ensures` is what the call of F ensures; `F-x` is a call whose
-- result is named x.
use Rattle.std.proofs.Common.{[], arith}
use Rattle.const_hex_tests.proofs.examples.streams.decode_chunks.Goals as goal

pub returns-clause-count : goal.returns-clause-count
returns-clause-count c = grind (arith, c.decode-first_result.ensures.outcome [] [] c.new-decoder.ensures.starts)
