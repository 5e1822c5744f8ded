-- Digits, the text of bytes, and the bytes that a text decodes to.
--
-- Bytes are numbers, and a text is a list of bytes. `u` is a text of digits, `b` and `bs` are bytes, `c` and `d` are
-- characters, and `up` asks for uppercase.
use Rattle.std.specs.Prelude.{ℕ, ◌+◌, ◌-◌, nat_lt, nat_le, ◌&&◌, Bool, if◌then◌else◌, Option, Some, None, unwrap_or, IsSome, ◌≡◌, ◌*◌, ◌/◌, ◌%◌, ◌<◌, ◌≤◌, List, [], ◌∷◌, ◌++◌, length, take, drop, slice_index, IsNone, All}

-- ---- hexadecimal digits and their values

-- the value of a byte: `0` to `9`, `A` to `F` and `a` to `f` have one, and no other byte has
abbrev pub hex_value : ℕ → Option ℕ
hex_value b =
    if nat_le 48 b && nat_le b 57 then Some (b - 48)
    else if nat_le 65 b && nat_le b 70 then Some (b - 55)
    else if nat_le 97 b && nat_le b 102 then Some (b - 87)
    else None

-- a value, or 255 if there is none
abbrev pub value_or_nil : Option ℕ → ℕ
value_or_nil v = unwrap_or v 255

-- a byte that has a value
abbrev pub IsDigit : ℕ → Type 0
IsDigit b = IsSome (hex_value b)

-- the digit of a value below 16, in uppercase or lowercase
abbrev pub hex_digit : Bool → ℕ → ℕ
hex_digit up v = if nat_lt v 10 then v + 48 else if up then v + 55 else v + 87

-- ---- the text of bytes, and the bytes that a text decodes to

-- two digits for each byte, in order: the high four bits, and then the low four
unfoldable pub hex_text : Bool → List ℕ → List ℕ
hex_text up [] = []
hex_text up (b ∷ bs) = hex_digit up (b / 16) ∷ hex_digit up (b % 16) ∷ hex_text up bs

-- `0x`, or nothing
abbrev pub prefix_of : Bool → List ℕ
prefix_of prefix = if prefix then 48 ∷ 120 ∷ [] else []

-- the text, after `0x` if a prefix is wanted
abbrev pub full_text : Bool → Bool → List ℕ → List ℕ
full_text prefix up bs = prefix_of prefix ++ hex_text up bs

-- the length of the text of n bytes: two digits for each, and two characters more for a prefix
abbrev pub text_length : Bool → ℕ → ℕ
text_length prefix n = 2 * n + (if prefix then 2 else 0)

-- two digits make one byte: 16 times the first value, plus the second
pub record IsPair (c d b : ℕ) : Type 0 where
  pub high : ℕ
  pub low : ℕ
  pub high_is : hex_value c ≡ Some high
  pub low_is : hex_value d ≡ Some low
  pub byte_is : b ≡ 16 * high + low

-- the text is two digits for each of the bytes, in order
abbrev pub Spells : List ℕ → List ℕ → Type 0
Spells [] [] = Unit {0}
Spells [] (b ∷ bs) = ⊥
Spells (c ∷ []) bs = ⊥
Spells (c ∷ d ∷ u) [] = ⊥
Spells (c ∷ d ∷ u) (b ∷ bs) = IsPair c d b × Spells u bs

-- every byte is a digit
abbrev pub AllDigits : List ℕ → Type 0
AllDigits u = All IsDigit u

-- the first byte that is not a digit has the index p
pub record FirstInvalidAt (u : List ℕ) (p : ℕ) : Type 0 where
  pub within : p < length u
  pub before : AllDigits (take p u)
  pub here : IsNone (hex_value (slice_index u p))

-- what a rejected text u leaves in an output: its beginning holds the bytes that digits of u decode
-- to, no more than the pairs before the first invalid character, and the rest is unchanged
pub record Partial (old u new : List ℕ) : Type 0 where
  pub invalid_index : ℕ
  pub done : ℕ
  pub first_invalid : FirstInvalidAt u invalid_index
  pub not_past : done ≤ invalid_index / 2
  pub same_length : length new ≡ length old
  pub front : Spells (take (2 * done) u) (take done new)
  pub rest : drop done new ≡ drop done old
