-- Lemmas that impls of `Output` and `Sink` cite for their laws. A law is a statement that a trait demands of each
-- impl.
--
-- `step s piece t` says that a write of the piece takes an output from the state s to t, and `space s` is how many
-- more bytes it accepts, or None if there is no limit. `ps` are pieces, and `j` is a state in between. In a proof,
-- the letters that its statement does not name are the hypotheses, in order.
use Rattle.std.specs.List.{FoldsTo, concat}
use Rattle.std.proofs.Common.{sym, ap, ◌∙◌, arith, length-append, ◌≡◌, ℕ, ◌+◌, if◌then◌else◌, List, [], ◌∷◌, ◌++◌, length, Option, Some, append-nil}
use Rattle.const_hex_arch.specs.Outputs.{remaining_space, Buffers}
use Rattle.const_hex_arch.specs.Sinks.{PieceState, PieceStep}

-- zero bytes take no space
remaining_space-zero : (space : Option ℕ) → remaining_space space 0 ≡ space
remaining_space-zero space = grind arith

-- the space that is left after some bytes and then more
pub remaining_space-add : (space : Option ℕ) (m n : ℕ) → remaining_space (remaining_space space m) n ≡ remaining_space space (m + n)
remaining_space-add space m n = grind arith

module _ {S : Type 0} (step : S → List ℕ → S → Type 0) (space : S → Option ℕ)
    (shrinks : (s : S) (piece : List ℕ) (t : S) → step s piece t → space t ≡ remaining_space (space s) (length piece)) where
  -- several writes take as much space as all their pieces are long
  pub run_shrinks : (s : S) (ps : List (List ℕ)) (t : S) → FoldsTo step s ps t
      → space t ≡ remaining_space (space s) (length (concat ps))
  run_shrinks s [] t h = ap space (sym h) ∙ sym (remaining_space-zero (space s))
  run_shrinks s (p ∷ ps) t (j, h, k) =
      rw (run_shrinks j ps t k, shrinks s p j h, length-append p (concat ps))
      (remaining_space-add (space s) (length p) (length (concat ps)))

  -- a write to a buffered output takes as much space as the piece is long
  pub Buffers_space : (n : ℕ) (old : S) (pending piece : List ℕ) (new : S) (rest : List ℕ)
      → Buffers step space n old pending piece new rest
      → remaining_space (space new) (length rest) ≡ remaining_space (remaining_space (space old) (length pending)) (length piece)
  Buffers_space n old pending piece new rest h =
      rw (run_shrinks old h.passed new h.run, remaining_space-add (space old) (length (concat h.passed)) (length rest))
      (rw (remaining_space-add (space old) (length pending), ← length-append (concat h.passed), h.whole, length-append))

-- ---- a sink that stores its pieces

-- the sink reports each accepted piece
pub PieceStep-reports : (s : PieceState) (piece : List ℕ) (t : PieceState) → PieceStep s piece t
    → Some t.pieces ≡ Some (s.pieces ++ (if t.failed then [] else piece ∷ []))
PieceStep-reports s piece t h = grind (arith, append-nil, h)
