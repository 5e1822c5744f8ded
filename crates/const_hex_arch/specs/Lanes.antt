-- Vectors of bytes: the values of digits in their lanes, and the operations that check and decode them, which
-- docs/DESIGN.md explains under "Checking and decoding one vector". A lane is one byte of a vector, a nibble is four
-- bits, and the error bits of a lane are those of the mask 0xD8.
--
-- `b` is a byte, `n` is a value, `v` has the lanes of a vector, and `ns` are nibbles, of which `h` is a high and `l`
-- a low one.
use Rattle.std.specs.Prelude.{◌≡◌, ℕ, ◌+◌, ◌*◌, ◌/◌, ◌%◌, ◌≤◌, List, [], ◌∷◌, ◌-◌, ◌↔◌, nat_le, nat_lt, if◌then◌else◌, Option, Some, None}
use Rattle.std.specs.Int.{bit_at}
use Rattle.std.specs.List.{AllByRecursion}
use Rattle.const_hex_arch.specs.Texts.{hex_value, IsDigit}

-- ---- the operations on lanes

-- every lane is a nibble: a value below 16
abbrev pub AllNibbles : List ℕ → Type 0
AllNibbles = AllByRecursion (λ n. n ≤ 15)

-- a lane has no error bit: the bits 7, 6, 4 and 3, which the mask 0xD8 has, are clear
abbrev pub IsClear : ℕ → Type 0
IsClear z = bit_at z 7 + bit_at z 6 + bit_at z 4 + bit_at z 3 ≡ 0

-- no lane has an error bit
abbrev pub AllClear : List ℕ → Type 0
AllClear = AllByRecursion IsClear

-- the nibbles of each byte, the high one first
abbrev pub nibbles_of : List ℕ → List ℕ
nibbles_of [] = []
nibbles_of (x ∷ v) = x / 16 ∷ x % 16 ∷ nibbles_of v

-- one byte for each pair of nibbles, the high one first
abbrev pub bytes_of_nibbles : List ℕ → List ℕ
bytes_of_nibbles [] = []
bytes_of_nibbles (h ∷ []) = []
bytes_of_nibbles (h ∷ l ∷ ns) = (16 * h + l) ∷ bytes_of_nibbles ns

-- ---- values of digits, in lanes

-- a lane of at most 15 is a value, and any other lane is none
abbrev pub as_value : ℕ → Option ℕ
as_value n = if nat_le n 15 then Some n else None

-- if the byte is a digit, n is its value
abbrev pub IsValueOf : ℕ → ℕ → Type 0
IsValueOf b n = IsDigit b → hex_value b ≡ Some n

-- if the byte is a digit, n is its value; the byte less 48, less n, has no error bit if and only if the
-- byte is a digit
abbrev pub IsClampedValueOf : ℕ → ℕ → Type 0
IsClampedValueOf b n = IsValueOf b n × (IsClear (((b + 208) % 256 + (256 - n)) % 256) ↔ IsDigit b)

-- t is a limit for the byte: the byte less 48, clamped to t, is such a value
abbrev pub IsLimitOf : ℕ → ℕ → Type 0
IsLimitOf b t = IsClampedValueOf b (if nat_lt ((b + 208) % 256) t then (b + 208) % 256 else t)
