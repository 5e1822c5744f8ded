-- Proofs of open goals, named after their places: `returns` is the return at the end; `in-V` is the arm V of a `match`;
-- `L-preserved` is the invariant after an iteration of the loop L; `clause-X` is the clause X of the contract. `c` has
-- the facts that are known there: `c.args` are the arguments; `c.F.ensures` is what the call of F ensures; `c.F.new` is
-- what it has changed; `F-x` is a call whose result is named x; `c.L` has the variables of the loop L and its
-- invariant.
--
-- `x` is the input that was read, `y` is the output that was written for it, and `has` is the fact that they match the
-- state.
use Rattle.std.proofs.Common.{◌≡◌, ◌∷◌, ◌++◌, ◌+◌, ◌<◌, ℕ, List, length, take, drop, get_or, sym, arith, append_assoc, length-drop, take_all}
use Rattle.std.proofs.lemmas.Grind.{common_steps}
use Rattle.std.proofs.lemmas.Slice.{take-put_mid_below}
use Rattle.hexfilter_core.proofs.lemmas.Texts.{append_chunk_byte, take_put}
use Rattle.hexfilter_core.proofs.stage.Stage.decode.Goals as goal

-- an input, cut before and after the byte with the index k of the chunk u
cut_at : (x u : List ℕ) (k : ℕ) → k < length u → (x ++ take k u) ++ get_or u k 0 ∷ drop (k + 1) u ≡ x ++ u
cut_at x u k h = grind (arith, common_steps)

pub returns-in-Ok-clause-reaches : goal.returns-in-Ok-clause-reaches
returns-in-Ok-clause-reaches c = λ x y in_after has.
    (λ some. c.in-Ok.ensures.ok x y has, λ none. absurd (omega (arith, none, c.requires.chunk)))

pub bytes-preserved : goal.bytes-preserved
bytes-preserved c =
    let chunk = c.args.chunk.now in
    let done = c.bytes.done in
    let end = c.bytes.end in
    let out = c.bytes.output in
    let new = c.decode_part-in-bytes.new.output in
    let count = c.in-Ok-decode_part.count in
    let i = c.bytes.invariant in
    let space = c.bytes.auto.output in
    let ensured = c.in-Ok-decode_part.ensures in record {
      fewer = omega (arith, i.fewer, ensured.most);
      decoded = λ x y has.
          let put = take_put end _ count out new (omega (arith, space, i.fewer, c.bytes-test.true, c.requires.space))
          (omega (arith, ensured.lengths.1, ensured.within, space)) in
          rw (
            append_chunk_byte x chunk done c.bytes-test.true,
            append_assoc y (take end out) (take count new),
            sym put,
          ) at
          (ensured.ok (x ++ take done chunk) (y ++ take end out) (i.decoded x y has));
    }

pub returns-in-Err-clause-reaches : goal.returns-in-Err-clause-reaches
returns-in-Err-clause-reaches c = λ x y in_after has.
    let chunk = c.args.chunk.now in
    let done = c.bytes.done in
    let end = c.bytes.end in
    let out = c.bytes.output in
    let i = c.bytes.invariant in
    let space = c.bytes.auto.output in
    let inside = c.bytes-test.true in
    let read = i.decoded x y has in
    let invalid = c.in-Err.ensures.err (x ++ take done chunk) (y ++ take end out) read
    (omega (arith, space, i.fewer, inside, c.requires.space)) in
    rw (take-put_mid_below end _ out c.decode_part-in-bytes.new.output end (omega arith)
    (omega (arith, space, i.fewer, inside, c.requires.space)))
    (rw (cut_at x chunk done inside) at
    (c.error.ensures (x ++ take done chunk) (y ++ take end out) (drop (done + 1) chunk) in_after read
    (omega (arith, length-drop (done + 1) chunk, c.requires.chunk, inside)) invalid))

pub returns-clause-reaches : goal.returns-clause-reaches
returns-clause-reaches c = λ x y in_after has. (
  λ some. rw (take_all c.bytes.done c.args.chunk.now (omega arith)) at (c.bytes.invariant.decoded x y has),
  λ none. absurd (omega (arith, none, c.requires.chunk)),
)
