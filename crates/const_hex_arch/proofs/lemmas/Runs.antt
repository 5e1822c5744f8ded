-- Writes of several pieces to an output, one after another, and the space that they leave.
--
-- `s` and `t` are the states of the output before and after, `m` and `j` are states in between, and `ps` and `qs` are
-- pieces. `FoldsTo step s ps t` says that a step for each piece takes the output from s to t, and `Writes` that the
-- pieces are a text. In a proof, the letters that its statement does not name are the hypotheses, in order.
use Rattle.std.proofs.Common.{◌≡◌, ℕ, ◌+◌, ◌≤◌, List, [], ◌∷◌, ◌++◌, length, refl, sym, subst, arith, inl, Option, append-nil}
use Rattle.std.specs.List.{FoldsTo, concat}
use Rattle.std.proofs.lemmas.List.Elements.{All-nil, All-cons, All-append}
use Rattle.std.proofs.lemmas.List.Folds.{concat-append}
use Rattle.const_hex_arch.specs.{Buffers, piece_of, HasSpace, remaining_space, IsKernelPiece, Writes}
pub use Rattle.const_hex_arch.specs.Laws.{remaining_space-add, run_shrinks}

module _ {S : Type 0} (step : S → List ℕ → S → Type 0) (space : S → Option ℕ)
    (shrinks : (s : S) (piece : List ℕ) (t : S) → step s piece t → space t ≡ remaining_space (space s) (length piece)) where
  -- what was written leaves space for the rest
  pub Writes_space : (s : S) (text : List ℕ) (t : S) (n : ℕ) → Writes step s text t
      → HasSpace (space s) (length text + n) → HasSpace (space t) n
  Writes_space s text t n w h =
      rw (run_shrinks step space shrinks s w.pieces t w.run, w.whole) (grind (arith, h))

module _ {S : Type 0} (step : S → List ℕ → S → Type 0) where
  -- some pieces, and then more
  pub run_append : (s : S) (ps : List (List ℕ)) (m : S) (qs : List (List ℕ)) (t : S) → FoldsTo step s ps m
      → FoldsTo step m qs t → FoldsTo step s (ps ++ qs) t
  run_append s [] m qs t h k = subst (λ (x : S). FoldsTo step x qs t) (sym h) k
  run_append s (p ∷ ps) m qs t (j, h, r) k = (j, h, run_append j ps m qs t r k)

  -- a piece is written by one step
  pub one_written : (s : S) (piece : List ℕ) (t : S) → step s piece t → IsKernelPiece piece → Writes step s piece t
  one_written s piece t h i = record {
    pieces = piece ∷ [];
    run = (t, h, refl);
    whole = append-nil piece;
    sizes = All-cons IsKernelPiece piece [] i (All-nil IsKernelPiece);
  }

  -- an empty text is written by no step
  pub none_written : (s : S) → Writes step s [] s
  none_written s = record { pieces = []; run = refl; whole = refl; sizes = All-nil IsKernelPiece }

  -- a text, and then another
  pub Writes-append : (s : S) (first : List ℕ) (m : S) (second : List ℕ) (t : S) → Writes step s first m
      → Writes step m second t
      → Writes step s (first ++ second) t
  Writes-append s first m second t h k = record {
    pieces = h.pieces ++ k.pieces;
    run = run_append s h.pieces m k.pieces t h.run k.run;
    whole = rw (concat-append, h.whole, k.whole);
    sizes = All-append IsKernelPiece h.pieces k.pieces h.sizes k.sizes;
  }

-- ---- what a buffered output passes on

-- the pending text as a piece is the pending text
pub concat-piece_of : (pending : List ℕ) → concat (piece_of pending) ≡ pending
concat-piece_of [] = refl
concat-piece_of (b ∷ bs) = append-nil (b ∷ bs)

module _ {O : Type 0} (step : O → List ℕ → O → Type 0) (space : O → Option ℕ) where
  -- the pending text goes first, and then a long piece
  pub Buffers-long : (n : ℕ) (old : O) (pending piece : List ℕ) (mid new : O) → FoldsTo step old (piece_of pending) mid
      → step mid piece new
      → n ≤ length piece → Buffers step space n old pending piece new []
  Buffers-long n old pending piece mid new h k w = record {
    passed = piece_of pending ++ piece ∷ [];
    run = run_append step old (piece_of pending) mid (piece ∷ []) new h (new, k, refl);
    whole = simp (append-nil, concat-append, concat-piece_of);
    bound = omega arith;
    fits = omega arith;
    short = λ l. absurd (omega arith);
    long = λ _. inl refl;
  }
