-- Proofs of open goals, named after their places: `returns` is the return at the end; `clause-X` is the clause X of the
-- contract. `c` has the facts that are known there: `c.args` are the arguments; `c.F.ensures` is what the call of F
-- ensures; `F-x` is a call whose result is named x.
use Rattle.std.proofs.Common.{[], arith}
use Rattle.const_hex.proofs.lemmas.Decoding.{body-shorter}
use Rattle.const_hex.specs.Decoding.{NamesInvalidSaturated}
use Rattle.const_hex_tests.proofs.examples.streams.check_chunk.Goals as goal

pub returns-clause-character : goal.returns-clause-character
returns-clause-character c = λ b i result_eq.
    let text = c.args.text.now in
    let (n, (p, first, character, index), at) : NamesInvalidSaturated text b i =
    rw result_eq at (c.check.ensures.outcome [] [] c.new-decoder.ensures.starts) in
    (p, first, character, omega (arith, at, index, first.within, body-shorter text))

pub returns-clause-digits : goal.returns-clause-digits
returns-clause-digits c = grind (arith, c.check.ensures.outcome [] [] c.new-decoder.ensures.starts)

pub returns-clause-not_odd : goal.returns-clause-not_odd
returns-clause-not_odd c = grind (arith, c.check.ensures.outcome [] [] c.new-decoder.ensures.starts)
