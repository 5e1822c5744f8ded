-- What an output holds after an error.
use Rattle.std.proofs.Common.{◌≡◌, ℕ, ◌*◌, List, drop, take}
use Rattle.const_hex.specs.Prelude.{LeavesOutput, body_of, Spells}
use Rattle.const_hex.specs.declared.error.FromHexError.{FromHexError}
use Rattle.const_hex.specs.declared.error.FromHexError.TheVariants.{InvalidHexCharacter, NoMemory}

-- it begins with decoded bytes, maybe none, and is unchanged after them
pub unchanged_after_decoded_prefix : (t old new : List ℕ) (e : FromHexError) → LeavesOutput t old new e
    → (n : ℕ) × (drop n new ≡ drop n old) × Spells (take (2 * n) (body_of t)) (take n new)
unchanged_after_decoded_prefix t old new (InvalidHexCharacter c i) h = (h.done, h.rest, h.front)
unchanged_after_decoded_prefix t old new NoMemory h = absurd h
unchanged_after_decoded_prefix t old new _ h = (0, h, tt)
