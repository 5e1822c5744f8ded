-- A buffer with a NUL after its text.
use Rattle.std.proofs.Common.{◌≡◌, sym, subst, ℕ, ◌+◌, ◌<◌, Bool, true, if◌then◌else◌, List, ◌∷◌, length, drop, slice_set}
use Rattle.std.proofs.lemmas.List.{drop-set}
use Rattle.const_hex_c.specs.Flags.{has_nul, after_text}

-- what is in the buffer from the NUL on, if the flags ask for one
pub after_nul : (flags m : ℕ) (old : List ℕ) → has_nul flags ≡ true → m < length old
    → drop m (slice_set old m 0) ≡ after_text flags m old
after_nul flags m old nul fits =
    subst (λ (b : Bool). drop m (slice_set old m 0) ≡ (if b then 0 ∷ drop (m + 1) old else drop m old))
    (sym nul) (drop-set old m 0 fits)
