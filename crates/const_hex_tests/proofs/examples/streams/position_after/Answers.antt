-- Proof of the open goal `returns`: the clauses of the contract hold at the return. `c` has the facts that are known
-- there: `c.F.ensures` is what the call of F ensures; `F-x` is a call whose result is named x.
use Rattle.std.proofs.Common.{[], arith}
use Rattle.const_hex_tests.proofs.examples.streams.position_after.Goals as goal

pub returns : goal.returns
returns c = grind (arith, c.check.ensures.ok [] [] c.new-decoder.ensures.starts)
