-- Proof of the open goal `returns`: the clauses of the contract hold at the return. `c` has the facts that are known
-- there: `c.args` are the arguments; `c.F.ensures` is what the call of F ensures; `F-x` is a call whose result is named
-- x.
use Rattle.std.proofs.Common.{[], arith}
use Rattle.const_hex_tests.proofs.examples.streams.decode_whole.Goals as goal

pub returns : goal.returns
returns c =
    let one = c.decode.ensures.ok [] [] c.new-decoder.ensures.starts in
    grind (arith, one, c.decode-2.ensures.ok c.args.first.now, c.finish.ensures.ok)
