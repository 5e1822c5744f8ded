-- Proof of the open goal `returns`: the clauses of the contract hold at the return. `c` has the facts that are known
-- there.
use Rattle.std.proofs.Common.{arith, length-append, refl}
use Rattle.const_hex_arch.proofs.lemmas.LaneText.{pairs_are}
use Rattle.const_hex_arch.proofs.arch.interleaved.InterleavingLaneOps16.merge.Goals as goal

pub returns : goal.returns
returns c = pairs_are (λ l. l) (λ l h. refl) 16 _ (simp length-append (omega arith))
