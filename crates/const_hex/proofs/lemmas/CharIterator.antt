-- The characters that the iterator `BytesToHexChars` has left.
--
-- `low` is the second character of a byte whose first was returned, and `u` are the bytes of which none was. `b` is
-- the next of them, and `x` and `y` are its characters. In a proof, the letters that its statement does not name are
-- the hypotheses, in order.
use mir.Val.{bool_byte}
use Rattle.std.proofs.Common.{◌≡◌, ℕ, ◌+◌, ◌*◌, ◌/◌, ◌%◌, Bool, List, [], ◌∷◌, length, Option, None, refl, arith, is_some}
use Rattle.std.proofs.lemmas.List.{nil_from_length}
use Rattle.const_hex.specs.Prelude.{hex_digit, hex_text, with_low}
use Rattle.const_hex_arch.proofs.lemmas.Texts.{length-hex_text}

-- no character is left
pub left-none : (up : Bool) (low : Option ℕ) (u : List ℕ) → low ≡ None → length u ≡ 0
    → with_low low (hex_text up u) ≡ []
unfolding hex_text
left-none up low u h e = rw (h, nil_from_length u e) refl

-- the two characters of a byte come first
pub left-more : (up : Bool) (low : Option ℕ) (t u : List ℕ) (b x y : ℕ) → low ≡ None → t ≡ b ∷ u
    → x ≡ hex_digit up (b / 16) → y ≡ hex_digit up (b % 16)
    → with_low low (hex_text up t) ≡ x ∷ y ∷ hex_text up u
unfolding hex_text
left-more up low t u b x y h e ex ey = rw (h, e, ex, ey) refl

-- the number of characters that are left
pub length-left : (up : Bool) (low : Option ℕ) (u : List ℕ)
    → length (with_low low (hex_text up u)) ≡ 2 * length u + bool_byte (is_some low)
length-left up low u = grind (arith, length-hex_text)

-- the lemmas that the proof search of `next` and `size_hint` may use
pub ruleset remaining_characters = (left-none, left-more, length-left)
