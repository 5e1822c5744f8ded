-- Proofs of open goals, named after their places: `returns` is the return at the end; `clause-X` is the clause X of the
-- contract. `c` has the facts that are known there: `c.F.ensures` is what the call of F ensures; `F-x` is a call whose
-- result is named x.
use Rattle.std.proofs.Common.{[], arith}
use Rattle.const_hex_tests.proofs.examples.streams.decode_where_it_fits.Goals as goal

pub returns-clause-space : goal.returns-clause-space
returns-clause-space c = grind (arith, c.decode-first.ensures.outcome [] [] c.new-decoder.ensures.starts)

pub returns-clause-other : goal.returns-clause-other
returns-clause-other c = λ none.
    let same = c.decode-first.ensures.unchanged none in
    (same.1, grind (arith, c.decode.ensures.outcome [] [] (rw same.0 c.new-decoder.ensures.starts)))
