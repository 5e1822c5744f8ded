-- Texts that are written to a writer in pieces.
--
-- `s` and `t` are the states of a `WriteSink` before and after, `m` is one in between, and `ps` are the pieces. In
-- the loop that writes one piece, `done` bytes are written, and the writer accepts `n` more. `Appends a b text` says
-- that the text was added to what a writer holds, a before and b after. In a proof, the letters that its statement
-- does not name are the hypotheses, in order.
use Rattle.std.proofs.Common.{◌≡◌, ℕ, ◌+◌, ◌-◌, ◌≤◌, true, false, List, [], ◌∷◌, ◌++◌, length, take, drop, Option, sym, ap, ◌∙◌, arith, inl, inr, min, Some, None, is_some, IfSome, ◌≢◌}
use Rattle.std.proofs.lemmas.Bool.{cases_Bool, false_from_ne_true}
use Rattle.std.proofs.KnownBytes.{Appends-kept, Appends-nil, Appends-trans}
use Rattle.std.proofs.Math.Seq.{take-add, take-append-add}
use Rattle.std.proofs.lemmas.List.{append_assoc, drop_all, take_min, take_rest, take-append-drop, take-append-le, length-drop, length-take}
use Rattle.std.proofs.lemmas.List.Folds.{concat-append}
use mathlib.Core.List.{append-eq-nil_iff}
use Rattle.std.specs.Io.KnownBytes.{Appends}
use Rattle.std.specs.List.{concat}
use Rattle.std.specs.IoError.{error_kind}
use Rattle.std.specs.declared.io.Error.{Error}
use Rattle.std.specs.declared.io.ErrorKind.TheVariants.{Interrupted}
use Rattle.const_hex.specs.Prelude.{Offers, Streams, WriteStep, sink_writer, writer_failed}
use Rattle.const_hex.specs.declared.write_sink.WriteSink.{WriteSink}

-- `done` bytes, and n of those that follow, are within the slice
pub step_within : (bytes : List ℕ) (done n : ℕ) → done ≤ length bytes
    → n ≤ length (take (length bytes - done) (drop done bytes)) → done + n ≤ length bytes
step_within bytes done n started inside =
    let m = simp (length-take, length-drop) at inside in omega (arith, m)

-- n bytes of the rest were written after the first `done` bytes
pub write_step : (a b c : Option (List ℕ)) (bytes : List ℕ) (done n : ℕ)
    → Appends a b (take done bytes)
    → Appends b c (take n (take (length bytes - done) (drop done bytes)))
    → Appends a c (take (done + n) bytes)
write_step a b c bytes done n p q =
    rw (take-add done n bytes)
    (Appends-trans a b c (take done bytes) (take n (drop done bytes)) p (rw (take_rest bytes done) at q))

-- the lemmas that the proof search of a loop that writes may use
pub ruleset writes = (step_within, write_step, Appends-kept)

-- there is no error
no_error : (e : Option Error) → is_some e ≡ false → IfSome e (λ x. error_kind x ≢ Interrupted)
no_error None h = tt
no_error (Some e) h = cc h

module _ {W : Type 0} (contents : W → Option (List ℕ)) where
  -- two texts are written as their concatenation; if the first write fails, the second is not tried
  write_concat : (s : WriteSink W) (a : List ℕ) (m : WriteSink W) (b : List ℕ) (t : WriteSink W)
      → WriteStep contents s a m → WriteStep contents m b t → (writer_failed m ≡ true → t ≡ m)
      → WriteStep contents s (a ++ b) t
  write_concat s a m b t h k stays = record {
    same_writer = k.same_writer ∙ h.same_writer;
    accepted = λ u.
        let before = false_from_ne_true (writer_failed m) (λ v. cc (stays v)) in
        Appends-trans _ _ _ a b (h.accepted before) (k.accepted u);
    failed = λ u. elim (cases_Bool (writer_failed m)) [
      | inl first ↦
          let r = h.failed first in let n = min r.0 (length a) in
          (n, rw (stays first, take-append-le n a b (omega arith), take_min r.0 a) r.1)
      | inr before ↦
          let r = k.failed u in
          (length a + r.0, rw (take-append-add a b r.0) (Appends-trans _ _ _ a (take r.0 b) (h.accepted before) r.1))
    ];
    retried = λ u. elim (cases_Bool (writer_failed m)) [
      | inl first ↦ rw (stays first) (h.retried u)
      | inr before ↦ k.retried before
    ];
    unchanged_if_empty = λ e. let none = append-eq-nil_iff.0 e in k.unchanged_if_empty none.1 ∙ h.unchanged_if_empty none.0;
  }

  -- after a failure no piece is written
  unchanged_after_failure : (m : WriteSink W) (ps : List (List ℕ)) (t : WriteSink W)
      → Offers (WriteStep contents) writer_failed m ps t → writer_failed m ≡ true → t ≡ m
  unchanged_after_failure m [] t h u = sym h
  unchanged_after_failure m (p ∷ ps) t h u = cc (h.0)

  -- the pieces that were offered are written as their concatenation; `left` are those that were not, after a failure
  write_pieces : (s : WriteSink W) (ps : List (List ℕ)) (t : WriteSink W) (left : List ℕ)
      → Offers (WriteStep contents) writer_failed s ps t
      → (writer_failed t ≡ false → left ≡ []) → WriteStep contents s (concat ps ++ left) t
  write_pieces s [] t left h none = record {
    same_writer = cc;
    accepted = λ u. rw (none u, h) (Appends-nil (contents (sink_writer t)));
    failed = λ _. (0, rw h (Appends-nil (contents (sink_writer t))));
    retried = λ u. no_error t.error (rw h at u);
    unchanged_if_empty = λ _. sym h;
  }
  write_pieces s (p ∷ ps) t left (e, (m, h, k)) none =
      rw append_assoc
      (write_concat s p m (concat ps ++ left) t h (write_pieces m ps t left k none) (unchanged_after_failure m ps t k))

  -- a text that is streamed in pieces is written as one piece would be
  pub streamed_text : (s : WriteSink W) (text : List ℕ) (t : WriteSink W)
      → Streams (WriteStep contents) writer_failed s text t → WriteStep contents s text t
  streamed_text s text t h =
      let offered = take h.offered h.pieces in
      let left = drop h.offered h.pieces in
      let whole : concat offered ++ concat left ≡ text =
      sym (concat-append offered left) ∙ ap (λ x. concat x) (take-append-drop h.offered h.pieces) ∙ h.cut.whole in
      rw whole at
      (write_pieces s offered t (concat left) h.run
      (λ u. ap (λ x. concat x) (drop_all h.offered h.pieces (omega (arith, h.complete u)))))
