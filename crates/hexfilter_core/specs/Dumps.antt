-- A hex dump: the text of bytes in groups, as it is written, and an input that is decoded as such a text.
--
-- `g` are groups, and `k` is the number of characters in the last group so far. `x` is an input, `t` its text, `r`
-- are the options of decoding, and `y` is an output. `Spells u y` says that the digits u decode to the bytes y.
use Rattle.std.specs.Prelude.{◌≡◌, ℕ, ◌+◌, ◌-◌, ◌*◌, ◌/◌, ◌^◌, ◌==◌, nat_le, nat_lt, ◌<◌, min, ◌&&◌, ◌||◌, not, Bool, true, false, if◌then◌else◌, List, [], ◌∷◌, ◌++◌, length, take, Option, Some, None}
use Rattle.std.specs.Io.KnownBytes.{IsAtEnd}
pub use Rattle.const_hex.specs.Prelude.{IsOdd, body_of, saturated, AllDigits, Spells, full_text}
pub use Rattle.const_hex.specs.declared.error.FromHexError.{FromHexError}
pub use Rattle.const_hex.specs.declared.error.FromHexError.TheVariants.{OddLength, InvalidStringLength, InvalidHexCharacter, NoMemory}
pub use Rattle.hexfilter_core.specs.declared.mode.Groups.{Groups}
pub use Rattle.hexfilter_core.specs.declared.mode.Reading.{Reading}
pub use Rattle.hexfilter_core.specs.declared.location.Location.{Location}

-- ---- groups

-- whether a group of k characters is full
abbrev pub is_full : Groups → ℕ → Bool
is_full g k = nat_lt 0 g.size && (k == g.size)

-- what follows the last group, which has k characters: a newline, if groups are lines and the last one is not empty
abbrev pub last_newline : Groups → ℕ → List ℕ
last_newline g k = if (g.separator == 10) && not (k == 0) then 10 ∷ [] else []

-- the text in groups, if its first group has k characters already: a separator comes before each character that
-- follows a full group
unfoldable pub groups_from : Groups → ℕ → List ℕ → List ℕ
groups_from g k [] = last_newline g k
groups_from g k (b ∷ t) =
    if is_full g k then g.separator ∷ b ∷ groups_from g 1 t else b ∷ groups_from g (min (k + 1) g.size) t

-- the text t is written in groups as y, whatever follows, if the first group has k characters already; the last group
-- then has m characters
abbrev pub PutsInto : Groups → ℕ → List ℕ → List ℕ → ℕ → Type 0
PutsInto g k t y m = (rest : List ℕ) → groups_from g k (t ++ rest) ≡ y ++ groups_from g m rest

-- the text of the bytes, after `0x` if a prefix is wanted, in groups
abbrev pub encoded : Bool → Bool → Groups → List ℕ → List ℕ
encoded prefix upper g x = groups_from g 0 (full_text prefix upper x)

-- ---- the text of an input

-- space, tab, line feed, vertical tab, form feed or carriage return
abbrev pub is_whitespace : ℕ → Bool
is_whitespace b = (b == 32) || (nat_le 9 b && nat_le b 13)

-- whether the byte b is left out, k characters after the last separator: a separator after a full group, or whitespace
abbrev pub is_left_out : Reading → ℕ → ℕ → Bool
is_left_out r k b = (is_full r.groups k && (b == r.groups.separator)) || (r.ignore_whitespace && is_whitespace b)

-- what the byte b adds to the text: instead of a byte that is not left out after a full group, a NUL, which is invalid
abbrev pub text_of_byte : Reading → ℕ → ℕ → List ℕ
text_of_byte r k b = if is_left_out r k b then [] else (if is_full r.groups k then 0 else b) ∷ []

-- the number of characters since the last separator, which is the fill of the last group, after the byte b
abbrev pub group_fill_after : Reading → ℕ → ℕ → ℕ
group_fill_after r k b =
    if is_full r.groups k && (b == r.groups.separator) then 0
    else if r.ignore_whitespace && is_whitespace b then k
    else min (k + 1) r.groups.size

-- the text of an input that begins k characters after the last separator
unfoldable pub text_from : Reading → ℕ → List ℕ → List ℕ
text_from r k [] = []
text_from r k (b ∷ x) = text_of_byte r k b ++ text_from r (group_fill_after r k b) x

-- the fill of the last group after an input that begins in a group of k characters
unfoldable pub group_fill_after_all : Reading → ℕ → List ℕ → ℕ
group_fill_after_all r k [] = k
group_fill_after_all r k (b ∷ x) = group_fill_after_all r (group_fill_after r k b) x

-- the text of an input: the input without what is left out
abbrev pub text_of : Reading → List ℕ → List ℕ
text_of r x = text_from r 0 x

-- the options that decode a text in these groups again; ends of lines are ignored as whitespace
abbrev pub mirror : Bool → Groups → Reading
mirror ignores g = record {
  is_check = false;
  ignore_whitespace = ignores;
  groups = if g.separator == 10 then record { size = 0; separator = 10 } else g;
}

-- if there are lines, whitespace is ignored
abbrev pub IgnoresLines : Bool → Groups → Type 0
IgnoresLines i g = (g.separator == 10) && nat_lt 0 g.size ≡ true → i ≡ true

-- ---- the line and column of a character, as editors count them

-- the location after the bytes t, of which the first is at the location p
unfoldable pub location_after : Location → List ℕ → Location
location_after p [] = p
location_after p (b ∷ t) =
    location_after
    (record { line = if b == 10 then p.line + 1 else p.line; column = if b == 10 then 1 else p.column + 1 }) t

-- the location after the input x
abbrev pub location_after_input : List ℕ → Location
location_after_input x = location_after (record { line = 1; column = 1 }) x

-- p is the location after x, if the length of x is below `usize::MAX`
abbrev pub IsLocation : List ℕ → Location → Type 0
IsLocation x p = length x < 2 ^ 64 - 1 → (p.line ≡ (location_after_input x).line) × (p.column ≡ (location_after_input x).column)

-- whether bytes may be left out
abbrev pub leaves_out : Reading → Bool
leaves_out r = r.ignore_whitespace || nat_lt 0 r.groups.size

-- the location after x if the flag is set, else None
abbrev pub IsLocationIf : Bool → List ℕ → Option Location → Type 0
IsLocationIf true x location = (p : Location) × (location ≡ Some p) × IsLocation x p
IsLocationIf false x location = location ≡ None

-- the location after x if bytes may be left out, else None
abbrev pub IsLocationAfter : Reading → List ℕ → Option Location → Type 0
IsLocationAfter r x location = IsLocationIf (leaves_out r) x location

-- ---- the bytes and the error of an input

-- the maximum length of a chunk
abbrev pub chunk_size : ℕ
chunk_size = 16384

-- the text t has only digits, and its pairs of digits decode to y; one more digit may follow them
abbrev pub SpellsPairs : List ℕ → List ℕ → Type 0
SpellsPairs t y = AllDigits (body_of t) × Spells (take (2 * (length (body_of t) / 2)) (body_of t)) y

-- the text of x begins with the digits of y
abbrev pub SpellsBeginning : Reading → List ℕ → List ℕ → Type 0
SpellsBeginning r x y = Spells (take (2 * length y) (body_of (text_of r x))) y

-- c is the first invalid character of x: before it, the text has only digits, whose pairs decode to y; with it, no
-- more. After it, less than a chunk was read. i is its position in x, or `usize::MAX` for a position beyond it
pub record FirstInvalid (r : Reading) (x y : List ℕ) (c i : ℕ) (location : Option Location) : Type 0 where
  pub front : List ℕ
  pub rest : List ℕ
  pub cut : x ≡ front ++ c ∷ rest
  pub rest_is_short : length rest < chunk_size
  pub bytes : SpellsPairs (text_of r front) y
  pub invalid : AllDigits (body_of (text_of r (front ++ c ∷ []))) → ⊥
  pub position : i ≡ saturated (length front)
  pub located : IsLocationAfter r front location

-- the error of an input of which x was read, and whose text decodes to y before the error: an odd number of digits, at
-- the end, or the first invalid character
abbrev pub HasError : Reading → Option (List ℕ) → List ℕ → List ℕ → FromHexError → Option Location → Type 0
HasError r in_after x y OddLength location =
    (location ≡ None) × IsAtEnd in_after × IsOdd (length (text_of r x)) × SpellsPairs (text_of r x) y
HasError r in_after x y InvalidStringLength location = ⊥
HasError r in_after x y (InvalidHexCharacter c i) location = FirstInvalid r x y c i location
HasError r in_after x y NoMemory location = ⊥
