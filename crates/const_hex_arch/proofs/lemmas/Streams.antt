-- A buffered output turns writes of small pieces into calls of a sink with large pieces. The buffer has 4096 bytes,
-- and a small piece at most 64, so a buffer that the next piece does not fit into has at least 4033.
--
-- `s` and `t` are the states before and after, `m` and `mid` are states in between, and `ps` are pieces. `pending` is
-- the buffered text before, and `rest` after. `step` is what a call of a sink does, and `has_failed` says whether one
-- has failed. `FoldsTo step s ps t` says that a step for each piece takes the state s to t. In a proof, the letters
-- that its statement does not name are the hypotheses, in order.
use Rattle.std.proofs.Common.{◌≡◌, ℕ, zero, suc, ◌+◌, ◌*◌, ◌/◌, ◌<◌, ◌≤◌, Bool, true, false, not, List, [], ◌∷◌, ◌++◌, length, take, refl, sym, ap, ◌∙◌, arith, inl, inr, length-append, Option, ◌-◌, if◌then◌else◌, le-div_iff_mul-le}
use Rattle.std.specs.List.{FoldsTo, concat, All}
use Rattle.std.proofs.lemmas.Bool.{cases_Bool}
use Rattle.std.proofs.lemmas.List.{append-nil, append_assoc, take_all, take-append-le}
use Rattle.std.proofs.lemmas.List.Elements.{All-nil, All-cons, All-head, All-tail, All-append, All-take, All-weaker}
use Rattle.std.proofs.lemmas.List.Folds.{concat-append}
use Rattle.const_hex_arch.specs.{Writes, IsKernelPiece, Buffers, piece_of, FlushesPending, SinkStep, output_sink, sink_name, reported_after, IsSinkPiece, IsLargePiece, Cut, Offers, Streams, StreamsWhole}
use Rattle.const_hex_arch.specs.declared.sink.output.SinkOutput.{SinkOutput}
use Rattle.const_hex_arch.proofs.lemmas.Runs.{run_append, concat-piece_of}

-- ---- what a buffered output passes on after several small writes

-- a piece that is flushed from the buffer has 4033 to 4096 bytes
abbrev IsFlushed : List ℕ → Type 0
IsFlushed p = (4033 ≤ length p) × (length p ≤ 4096)

-- what several small writes do: pieces are flushed, and with the rest they are the text
record Buffered {O : Type 0} (step : O → List ℕ → O → Type 0) (old : O) (pending text : List ℕ) (new : O)
    (rest : List ℕ) : Type 0 where
  passed : List (List ℕ)
  run : FoldsTo step old passed new
  whole : concat passed ++ rest ≡ pending ++ text
  sizes : All IsFlushed passed
  bound : length rest ≤ 4096

-- the sizes of what one small write flushes
flushed_sizes : (pending piece : List ℕ) (passed : List (List ℕ)) → length pending ≤ 4096 → IsKernelPiece piece
    → FlushesPending 4096 pending piece passed
    → All IsFlushed passed
flushed_sizes pending piece passed f k (inl e) = rw e (All-nil IsFlushed)
flushed_sizes pending piece passed f k (inr (e, m)) =
    rw e (All-cons IsFlushed pending [] (omega arith) (All-nil IsFlushed))

module _ {O : Type 0} (step : O → List ℕ → O → Type 0) (space : O → Option ℕ) where
  -- one small write, and then more
  buffered_more : (old : O) (pending piece : List ℕ) (mid : O) (mid_rest text : List ℕ) (new : O) (rest : List ℕ)
      → length pending ≤ 4096 → IsKernelPiece piece
      → Buffers step space 4096 old pending piece mid mid_rest → Buffered step mid mid_rest text new rest
      → Buffered step old pending (piece ++ text) new rest
  buffered_more old pending piece mid mid_rest text new rest f k g r = record {
    passed = g.passed ++ r.passed;
    run = run_append step old g.passed mid r.passed new g.run r.run;
    whole = rw (concat-append, append_assoc, r.whole, ← append_assoc (concat g.passed) mid_rest text, g.whole)
        (append_assoc pending piece text);
    sizes = All-append IsFlushed g.passed r.passed (flushed_sizes pending piece g.passed f k (g.short (omega arith)))
        r.sizes;
    bound = r.bound;
  }

  module _ {B : Type 0} (inner : B → O) (pending : B → List ℕ) where
    -- all small writes; a state of the buffered output has an inner output and a pending text
    buffered_run : (s : B) (ps : List (List ℕ)) (t : B) → length (pending s) ≤ 4096 → All IsKernelPiece ps
        → FoldsTo (λ s p t. Buffers step space 4096 (inner s) (pending s) p (inner t) (pending t)) s ps t
        → Buffered step (inner s) (pending s) (concat ps) (inner t) (pending t)
    buffered_run s [] t f a h =
        let whole = sym (append-nil (pending s)) in
        rw (← h) (record { passed = []; run = refl; whole = whole; sizes = All-nil IsFlushed; bound = f })
    buffered_run s (p ∷ ps) t f a (m, h, k) =
        buffered_more (inner s) (pending s) p (inner m) (pending m) (concat ps) (inner t) (pending t) f
        (All-head IsKernelPiece p ps a) h
        (buffered_run m ps t h.bound (All-tail IsKernelPiece p ps a) k)

-- ---- what was passed on, and then the pending text, are pieces of the right size

-- the pending text is at most one piece
small_piece : (rest : List ℕ) → length (piece_of rest) ≤ 1 × length (piece_of rest) ≤ length rest
small_piece [] = omega arith
small_piece (x ∷ rest) = omega arith

-- its size as a piece for a sink
piece_of-sizes : (rest : List ℕ) → length rest ≤ 4096 → All IsSinkPiece (piece_of rest)
piece_of-sizes [] f = All-nil IsSinkPiece
piece_of-sizes (b ∷ bs) f = All-cons IsSinkPiece (b ∷ bs) [] (omega arith) (All-nil IsSinkPiece)

-- the flushed pieces and the pending text are a cut of the whole text
Cut-of : (text : List ℕ) (ps : List (List ℕ)) (rest : List ℕ) → concat ps ++ rest ≡ text → All IsFlushed ps
    → length rest ≤ 4096
    → Cut text (ps ++ piece_of rest)
Cut-of text ps rest w a f = record {
  whole = rw (concat-append, concat-piece_of) w;
  sizes = All-append IsSinkPiece ps (piece_of rest) (All-weaker IsFlushed IsSinkPiece (λ p h. (omega arith, h.1)) ps a)
      (piece_of-sizes rest f);
  large =
      let few : length (ps ++ piece_of rest) - 1 ≤ length ps = simp length-append (omega (arith, small_piece rest)) in
      rw take-append-le (All-take IsLargePiece _ ps (All-weaker IsFlushed IsLargePiece (λ p h. h.0) ps a));
}

-- the number of pieces bounds the number of bytes from below
many_bytes : (ps : List (List ℕ)) → All IsFlushed ps → 4033 * length ps ≤ length (concat ps)
many_bytes [] a = omega arith
many_bytes (p ∷ ps) a =
    let h = (All-head IsFlushed p ps a).0 in
    omega (arith, h, many_bytes ps (All-tail IsFlushed p ps a), length-append p (concat ps))

-- so there are not many pieces
few_pieces : (text : List ℕ) (ps : List (List ℕ)) (rest : List ℕ) → concat ps ++ rest ≡ text → All IsFlushed ps
    → length (ps ++ piece_of rest) ≤ (length text + 4032) / 4033
few_pieces text ps rest w a =
    let few = small_piece rest in
    let l : length (ps ++ piece_of rest) * 4033 ≤ length text + 4032 =
    omega (arith, many_bytes ps a, ap length w, length-append ps (piece_of rest), length-append (concat ps) rest) in
    (le-div_iff_mul-le {k = 4033} (omega arith)).1 l

-- ---- what is offered to a sink

module _ {S : Type 0} (step : S → List ℕ → S → Type 0) (has_failed : S → Bool) where
  -- a run of writes goes to one sink
  sink_name-run : (s : SinkOutput S) (ps : List (List ℕ)) (t : SinkOutput S) → FoldsTo (SinkStep step has_failed) s ps t
      → sink_name t ≡ sink_name s
  sink_name-run s [] t h = ap (λ (x : SinkOutput S). sink_name x) (sym h)
  sink_name-run s (p ∷ ps) t (m, h, k) = sink_name-run m ps t k ∙ h.same_sink

  -- a run after a failure changes nothing
  unchanged_after_failure : (s : SinkOutput S) (ps : List (List ℕ)) (t : SinkOutput S) → has_failed (output_sink s) ≡ true
      → FoldsTo (SinkStep step has_failed) s ps t → output_sink t ≡ output_sink s
  unchanged_after_failure s [] t r h = ap (λ (x : SinkOutput S). output_sink x) (sym h)
  unchanged_after_failure s (p ∷ ps) t r (m, h, k) = let e = h.after_failure r in unchanged_after_failure m ps t (ap has_failed e ∙ r) k ∙ e

  -- how many of the pieces were passed to the sink: all, or those up to the first failure
  record Offered (old : S) (pieces : List (List ℕ)) (new : S) : Type 0 where
    count : ℕ
    within : count ≤ length pieces
    run : Offers step has_failed old (take count pieces) new
    complete : has_failed new ≡ false → count ≡ length pieces

  -- what a run of writes passes to its sink
  offered_run : (s : SinkOutput S) (ps : List (List ℕ)) (t : SinkOutput S) → has_failed (output_sink s) ≡ false
      → FoldsTo (SinkStep step has_failed) s ps t → Offered (output_sink s) ps (output_sink t)
  offered_run s [] t e h =
      record { count = 0; within = omega arith; run = ap (λ (x : SinkOutput S). output_sink x) h; complete = λ _. refl }
  offered_run s (p ∷ ps) t e (m, h, k) =
      elim (cases_Bool (has_failed (output_sink m))) [
        | inl u ↦
            let c = unchanged_after_failure m ps t u k in record {
              count = 1;
              within = omega arith;
              run = (e, (output_sink m, h.accepting e, sym c));
              complete = λ v. absurd (cc);
            }
        | inr u ↦
            let o = offered_run m ps t u k in record {
              count = suc o.count;
              within = omega arith;
              run = (e, (output_sink m, h.accepting e, o.run));
              complete = λ v. ap suc (o.complete v);
            }
      ]

  -- several small writes to a buffered output, and then a flush of the pending text, stream the text to the sink
  pub Streams-from_writes : {B : Type 0} (space : SinkOutput S → Option ℕ) (inner : B → SinkOutput S)
      (pending : B → List ℕ)
      (s : B) (text : List ℕ) (t : B) (out : SinkOutput S) → pending s ≡ []
      → Writes (λ s p t. Buffers (SinkStep step has_failed) space 4096 (inner s) (pending s) p (inner t) (pending t)) s
      text t
      → FoldsTo (SinkStep step has_failed) (inner t) (piece_of (pending t)) out
      → has_failed (output_sink (inner s)) ≡ false
      → (sink_name out ≡ sink_name (inner s)) × Streams step has_failed (output_sink (inner s)) text (output_sink out)
  Streams-from_writes space inner pending s text t out none w k e =
      let g = buffered_run (SinkStep step has_failed) space inner pending s w.pieces t (rw none (omega arith)) w.sizes
      w.run in
      let pieces = g.passed ++ piece_of (pending t) in
      let whole : concat g.passed ++ pending t ≡ text = g.whole ∙ ap (λ x. x ++ concat w.pieces) none ∙ w.whole in
      let run = run_append (SinkStep step has_failed) (inner s) g.passed (inner t) (piece_of (pending t)) out g.run k in
      let o = offered_run (inner s) pieces out e run in
      let few = few_pieces text g.passed (pending t) whole g.sizes in (
        sink_name-run (inner s) pieces out run,
        record {
          pieces = pieces;
          offered = o.count;
          cut = Cut-of text g.passed (pending t) whole g.sizes g.bound;
          within = o.within;
          run = o.run;
          complete = o.complete;
          calls = let h = o.within in omega (arith, h, few);
        },
      )

  -- a text that is passed in one call
  pub Streams-one : (s : S) (text : List ℕ) (t : S) → 0 < length text → length text ≤ 4096 → has_failed s ≡ false
      → step s text t
      → Streams step has_failed s text t
  Streams-one s text t some most e h = record {
    pieces = text ∷ [];
    offered = 1;
    cut = record {
      whole = append-nil text;
      sizes = All-cons IsSinkPiece text [] (omega arith, most) (All-nil IsSinkPiece);
      large = All-nil IsLargePiece;
    };
    within = omega arith;
    run = (e, (t, h, refl));
    complete = λ _. refl;
    calls = (le-div_iff_mul-le {k = 4033} (omega arith)).1 (omega arith);
  }

  -- all pieces of a text of fewer than 4033 bytes: this text
  one_piece : (text : List ℕ) (pieces : List (List ℕ)) → 0 < length text → length text < 4033 → Cut text pieces
      → pieces ≡ text ∷ []
  one_piece text [] some few h = absurd (omega (arith, some, ap length h.whole))
  one_piece text (p ∷ []) some few h = ap (λ x. x ∷ []) (sym (append-nil p) ∙ h.whole)
  one_piece text (p ∷ q ∷ ps) some few h =
      let front : All IsLargePiece (take (length (p ∷ q ∷ ps) - 1) (p ∷ q ∷ ps)) = h.large in
      let count : length (p ∷ q ∷ ps) - 1 ≡ suc (length ps) = omega arith in
      let large : 4033 ≤ length p = All-head IsLargePiece p (take (length ps) (q ∷ ps)) (rw count at front) in
      absurd (omega (arith, few, large, ap length h.whole, length-append p (concat (q ∷ ps))))

  -- one piece that is passed to a sink
  one_step : (s : S) (text : List ℕ) (t : S) (offered : ℕ) → has_failed s ≡ false → offered ≤ 1
      → Offers step has_failed s (take offered (text ∷ [])) t → (has_failed t ≡ false → offered ≡ 1)
      → step s text t
  one_step s text t zero e f run complete = absurd (omega (arith, complete (ap has_failed (sym run) ∙ e)))
  one_step s text t (suc zero) e f (_, (m, h, k)) complete = rw k at h
  one_step s text t (suc (suc n)) e f run complete = absurd (omega (arith, f))

  -- such a text is passed in one call
  pub short_stream : (s : S) (text : List ℕ) (t : S) → has_failed s ≡ false → 0 < length text → length text < 4033
      → Streams step has_failed s text t
      → step s text t
  short_stream s text t e some few h =
      let one = one_piece text h.pieces some few h.cut in
      let sizes : length h.pieces ≡ 1 = ap length one in
      one_step s text t h.offered e (omega (arith, h.within, sizes)) (rw one at h.run) (λ v. h.complete v ∙ sizes)

  -- a text of no bytes
  pub Streams-none : (s : S) (text : List ℕ) → text ≡ [] → Streams step has_failed s text s
  Streams-none s text e = rw e (record {
    pieces = [];
    offered = 0;
    cut = record { whole = refl; sizes = All-nil IsSinkPiece; large = All-nil IsLargePiece };
    within = omega arith;
    run = refl;
    complete = λ _. refl;
    calls = omega arith;
  })

  -- ---- what is offered to a sink that accepts all

  -- a sink that has not failed after some pieces had not failed before them
  pub Offers-accepting : (s : S) (ps : List (List ℕ)) (t : S) → has_failed t ≡ false → Offers step has_failed s ps t
      → has_failed s ≡ false
  Offers-accepting s [] t e h = ap has_failed h ∙ e
  Offers-accepting s (p ∷ ps) t e h = h.0

  -- all pieces of a stream are offered
  pub Streams-all : (s : S) (text : List ℕ) (t : S) → has_failed t ≡ false → (h : Streams step has_failed s text t)
      → Offers step has_failed s h.pieces t
  Streams-all s text t e h = rw (h.complete e, take_all (length h.pieces) h.pieces (omega arith)) at h.run

-- ---- what a sink reports

-- no pieces more
reported_after-none : (o : Option (List (List ℕ))) → reported_after o [] ≡ o
reported_after-none o = grind (arith, append-nil)

-- some pieces more, and then others
reported_after-more : (o : Option (List (List ℕ))) (xs ys : List (List ℕ))
    → reported_after (reported_after o xs) ys ≡ reported_after o (xs ++ ys)
reported_after-more o xs ys = grind (arith, append_assoc)

module _ {S : Type 0} (step : S → List ℕ → S → Type 0) (has_failed : S → Bool) (reported : S → Option (List (List ℕ)))
    (reports : (s : S) (piece : List ℕ) (t : S) → step s piece t
    → reported t ≡ reported_after (reported s) (if has_failed t then [] else piece ∷ [])) where
  -- what is passed to a sink that accepts all is reported
  reported-Offers : (s : S) (ps : List (List ℕ)) (t : S) → has_failed t ≡ false → Offers step has_failed s ps t
      → reported t ≡ reported_after (reported s) ps
  reported-Offers s [] t e h = ap reported (sym h) ∙ sym (reported_after-none (reported s))
  reported-Offers s (p ∷ ps) t e (o, (m, h, k)) =
      rw (reported-Offers m ps t e k, reports s p m h, Offers-accepting step has_failed m ps t e k)
      (reported_after-more (reported s) (p ∷ []) ps)

  -- from the stream and the result follow all fields of the contract of `write_to`
  pub StreamsWhole-of : (s : S) (text : List ℕ) (ok : Bool) (t : S) → Streams step has_failed s text t
      → ok ≡ not (has_failed t)
      → StreamsWhole step has_failed reported s text ok t
  StreamsWhole-of s text ok t h flag = record {
    streams = h;
    flag = flag;
    reported = λ e. let r = reported-Offers s h.pieces t e (Streams-all step has_failed s text t e h) in
        record { pieces = h.pieces; cut = h.cut; reported = r };
  }

-- the same for another name of the state after
pub Streams-at : {S : Type 0} (step : S → List ℕ → S → Type 0) (has_failed : S → Bool) (old : S) (text : List ℕ)
    (new : S)
    → Streams step has_failed old text new → (end : S) → end ≡ new → Streams step has_failed old text end
Streams-at step has_failed old text new h end e = rw e h

-- the lemmas that the proof search of `write_whole` may use
pub ruleset wholes = (StreamsWhole-of, Streams-none, Streams-one)
