-- Proof of the open goal `returns`: the clauses of the contract hold at the return. `c` has the facts that are known
-- there.
use Rattle.std.proofs.Common.{arith, length-append, bit_and}
use Rattle.const_hex_arch.proofs.lemmas.LaneText.{pairs_are, masked}
use Rattle.const_hex_arch.proofs.arch.interleaved.InterleavingLaneOps32.merge.Goals as goal

pub returns : goal.returns
returns c = pairs_are (λ l. bit_and l 15) masked 32 _ (simp length-append (omega arith))
