-- What an output takes: pieces of text, the space that they leave, and a write to each kind of output. An output
-- receives text, and cannot fail.
--
-- `step old piece new` says that a write of the piece takes an output from the state `old` to `new`. `space` is how
-- many more bytes the output accepts, or None if there is no limit.
use Rattle.std.specs.Prelude.{◌≡◌, ℕ, ◌-◌, ◌≤◌, List, length, Option, Some, None, unwrap_or, ◌+◌, ◌++◌, take, drop, ◌<◌, [], ◌∷◌, ◌⊎◌}
use Rattle.std.specs.List.{FoldsTo, concat, All}
use Rattle.std.specs.Borrow.{GName}
use Rattle.const_hex_arch.specs.declared.output.slice.SliceOutput.{SliceOutput}

-- ---- pieces of text that are written one after another, and the space that they leave

-- n more bytes fit, or there is no limit
abbrev pub HasSpace : Option ℕ → ℕ → Type 0
HasSpace space n = n ≤ unwrap_or space n

-- the space that remains after n bytes
abbrev pub remaining_space : Option ℕ → ℕ → Option ℕ
remaining_space (Some space) n = Some (space - n)
remaining_space None n = None

-- the length of a kernel's piece: 1 to 64 bytes
abbrev pub IsKernelPiece : List ℕ → Type 0
IsKernelPiece piece = (1 ≤ length piece) × (length piece ≤ 64)

-- an output takes a step for each of some pieces of 1 to 64 bytes, which together are the text
pub record Writes {S : Type 0} (step : S → List ℕ → S → Type 0) (old : S) (text : List ℕ) (new : S) : Type 0 where
  pub pieces : List (List ℕ)
  pub run : FoldsTo step old pieces new
  pub whole : concat pieces ≡ text
  pub sizes : All IsKernelPiece pieces

-- ---- a write into a slice

-- the slice that an output writes into
abbrev pub slice_bytes : SliceOutput → List ℕ
slice_bytes o = o.slice.now

-- how many bytes of it are written
abbrev pub slice_written : SliceOutput → ℕ
slice_written o = o.count

-- the identity of the borrow of an output's slice
abbrev pub slice_name : SliceOutput → GName
slice_name o = o.slice.ghost_name

-- the piece is in the slice after what was written, and the rest of the slice is unchanged
pub record Placed (old : List ℕ) (at : ℕ) (piece : List ℕ) (new : List ℕ) (end : ℕ) : Type 0 where
  pub end_at : end ≡ at + length piece
  pub same_length : length new ≡ length old
  pub bytes : new ≡ take at old ++ piece ++ drop end old

-- the piece is put into the same slice
pub record SliceStep (s : SliceOutput) (piece : List ℕ) (t : SliceOutput) : Type 0 where
  pub same_slice : slice_name t ≡ slice_name s
  pub placed : Placed (slice_bytes s) (slice_written s) piece (slice_bytes t) (slice_written t)

-- ---- a write to a buffered output

-- the pending text as a piece, if there is any
abbrev pub piece_of : List ℕ → List (List ℕ)
piece_of [] = []
piece_of (b ∷ bs) = (b ∷ bs) ∷ []

-- a piece shorter than n: nothing is passed on; or, if the pending text and the piece do not fit
-- together, only the pending text
abbrev pub FlushesPending : ℕ → List ℕ → List ℕ → List (List ℕ) → Type 0
FlushesPending n pending piece passed =
    (passed ≡ []) ⊎ ((passed ≡ pending ∷ []) × (n < length pending + length piece))

-- a piece of n bytes or more: the pending text is passed on, if there is any, and then the piece; a
-- piece of exactly n bytes may stay pending instead
abbrev pub PassesPiece : ℕ → List ℕ → List ℕ → List (List ℕ) → Type 0
PassesPiece n pending piece passed =
    (passed ≡ piece_of pending ++ piece ∷ []) ⊎ ((passed ≡ piece_of pending) × (length piece ≡ n))

-- a write of the piece to an output with a buffer of n bytes, from the pending text `pending` to the
-- pending text `rest`: some pieces are passed on; followed by `rest`, they are `pending` and then the
-- piece; at most n bytes are pending, and they fit into the output
pub record Buffers {O : Type 0} (step : O → List ℕ → O → Type 0) (space : O → Option ℕ) (n : ℕ) (old : O)
    (pending piece : List ℕ) (new : O)
    (rest : List ℕ) : Type 0 where
  pub passed : List (List ℕ)
  pub run : FoldsTo step old passed new
  pub whole : concat passed ++ rest ≡ pending ++ piece
  pub bound : length rest ≤ n
  pub fits : HasSpace (space new) (length rest)
  pub short : length piece < n → FlushesPending n pending piece passed
  pub long : n ≤ length piece → PassesPiece n pending piece passed
