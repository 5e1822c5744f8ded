-- Proof of the open goal `returns`: the clauses of the contract hold at the return. `c` has the facts that are known
-- there: `c.args` are the arguments; `c.F.ensures` is what the call of F ensures; `c.F.result` is its result. `search`
-- is a proof search.
use Rattle.std.proofs.Common.{◌≡◌, ◌<◌, ◌≤◌, ◌∙◌, length, take, false, ap, arith, nat_lt, rules}
use Rattle.std.proofs.lemmas.List.{get_or-take, length-take, length-take-le, take-append-le, take-take}
use Rattle.std.proofs.lemmas.List.Elements.{All-from_get_or}
use Rattle.std.proofs.lemmas.Simd.{put_chunk_is, run_in_chunk_fails, run_in_chunk_le}
use lib.Lanes.{chunk}
use Rattle.hexfilter_core.proofs.scanner.copy_block.Goals as goal

pub returns : goal.returns
returns c =
    let xs = c.args.chunk.now in
    let n = c.count_above_space.result in
    let space : 32 ≤ length xs = omega arith in
    let less = run_in_chunk_le (λ b. nat_lt b 33) xs 0 32 n 0 space c.count_above_space.ensures in
    let size = length-take-le n xs (omega (arith, less)) in
    let block : length (chunk 0 32 xs) ≡ 32 = omega (arith, length-take 32 xs, space) in record {
      within = omega (arith, less);
      high = All-from_get_or (λ b. nat_lt b 33 ≡ false) (take n xs) 0 (λ i h.
          let inside : i < n = omega (arith, size, h) in
          rw (get_or-take n xs i 0 inside)
          (run_in_chunk_fails (λ b. nat_lt b 33) xs 0 32 n 0 space c.count_above_space.ensures i (omega arith)
          (omega (arith, inside))));
      copied = ap (take n) (put_chunk_is 0 c.args.output.now (chunk 0 32 xs) (omega (arith, block)))
          ∙ take-append-le n (chunk 0 32 xs) _ (omega (arith, block, less)) ∙ take-take n 32 xs (omega (arith, less));
      length = search rules;
    }
