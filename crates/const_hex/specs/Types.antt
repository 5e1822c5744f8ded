-- Types that can be decoded from text, or encoded as it: their results, and the law of `FromHex`.
--
-- `t` is a text, `v` a value, `bs` are bytes, `r` is a result, and `e` an error. `results t r` says that a type may
-- have the result r for the text t, `bytes` and `items` are the bytes and the elements of a value, `fits` are the
-- numbers of bytes that a value may have, and `is_memory` says which errors mean out of memory.
use Rattle.std.specs.Prelude.{ℕ, ◌-◌, nat_lt, if◌then◌else◌, ℤ, pos, negsuc, ◌≡◌, Bool, true, false, ◌⊎◌, List, length, map, Result, Ok, Err, Option, Some, codes, ◌∷◌, None}
use Rattle.const_hex.specs.Results.{DecodesTo, IsEven, IsOdd}
use Rattle.const_hex.specs.declared.error.FromHexError.{FromHexError}
use Rattle.const_hex.specs.declared.error.FromHexError.TheVariants.{OddLength, InvalidStringLength, InvalidHexCharacter, NoMemory}
use Rattle.const_hex.specs.declared.serde.error.JsonError.{JsonError}
use Rattle.const_hex.specs.declared.serde.error.JsonError.TheVariants.{NotText, Hex}
use Rattle.const_hex_arch.specs.Texts.{hex_text}
use Rattle.const_hex.specs.declared.traits.chars.BytesToHexChars.{BytesToHexChars}

-- ---- signed elements with the bits of bytes

-- the signed number with the bits of a byte: b if b is below 128, else b - 256
abbrev pub signed_of : ℕ → ℤ
signed_of b = if nat_lt b 128 then pos b else negsuc (255 - b)

-- the byte with the bits of a signed number
abbrev pub byte_of : ℤ → ℕ
byte_of (pos n) = n
byte_of (negsuc n) = 255 - n

-- ---- a text that is read into a type: the results that it may have, and their law

-- which errors for a text mean that memory ran out
abbrev pub is_no_memory : FromHexError → Bool
is_no_memory OddLength = false
is_no_memory InvalidStringLength = false
is_no_memory (InvalidHexCharacter c i) = false
is_no_memory NoMemory = true

-- every number of bytes fits
abbrev pub AnyCount : ℕ → Type 0
AnyCount n = Unit {0}

-- n bytes fit, and no other number
abbrev pub IsCount : ℕ → ℕ → Type 0
IsCount n count = count ≡ n

-- there is an error for the text t, or it decodes to a number of bytes that does not fit
abbrev pub IsRejected : (ℕ → Type 0) → List ℕ → Type 0
IsRejected fits t =
    ((e : FromHexError) × DecodesTo t (Err e))
    ⊎ ((bs : List ℕ) × DecodesTo t (Ok bs) × (fits (length bs) → ⊥))

-- the law of types that are read from text: a value has the bytes that the text decodes to, and their number fits; an
-- error means that memory ran out, or that the text is rejected for each type, or that its number of bytes does not fit
abbrev pub IsFaithful : {V E : Type 0} → (V → List ℕ) → (ℕ → Type 0) → (E → Bool) → List ℕ → Result V E → Type 0
IsFaithful bytes fits is_memory t (Ok v) = DecodesTo t (Ok (bytes v)) × fits (length (bytes v))
IsFaithful bytes fits is_memory t (Err e) = is_memory e ≡ false → IsRejected fits t

-- the results of a type that owns its bytes: the text's result, or, if its length is even, out of memory
abbrev pub DecodesToOwned : {V : Type 0} → (V → List ℕ) → List ℕ → Result V FromHexError → Type 0
DecodesToOwned bytes t (Ok v) = DecodesTo t (Ok (bytes v))
DecodesToOwned bytes t (Err OddLength) = IsOdd (length t)
DecodesToOwned bytes t (Err InvalidStringLength) = ⊥
DecodesToOwned bytes t (Err (InvalidHexCharacter c i)) = DecodesTo t (Err (InvalidHexCharacter c i))
DecodesToOwned bytes t (Err NoMemory) = IsEven (length t)

-- the results of a type of your own: the results for bytes, with a value that stands for its bytes
abbrev pub DecodesToValue : {V : Type 0} → (V → List ℕ) → (List ℕ → Result (List ℕ) FromHexError → Type 0) → List ℕ
    → Result V FromHexError → Type 0
DecodesToValue bytes results t (Ok v) = results t (Ok (bytes v))
DecodesToValue bytes results t (Err e) = results t (Err e)

-- the results of a type of signed elements: the results for bytes, with the bits of the bytes
abbrev pub DecodesToSigned : {V : Type 0} → (V → List ℤ) → (List ℕ → Result (List ℕ) FromHexError → Type 0) → List ℕ
    → Result V FromHexError → Type 0
DecodesToSigned items results t (Ok v) = (bs : List ℕ) × results t (Ok bs) × (items v ≡ map signed_of bs)
DecodesToSigned items results t (Err e) = results t (Err e)

-- the results of a pointer: the results of its target, or out of memory if the target may have a value
abbrev pub DecodesToPointer : {W V E : Type 0} → (W → V) → (E → Bool) → (List ℕ → Result V E → Type 0) → List ℕ → Result W E
    → Type 0
DecodesToPointer target is_memory results t (Ok w) = results t (Ok (target w))
DecodesToPointer {W} {V} target is_memory results t (Err e) =
    results t (Err e) ⊎ ((is_memory e ≡ true) × ((v : V) × results t (Ok v)))

-- ---- a JSON value that is read into a type

-- the results for a JSON value, which may be a string with the text t: the type's results for t, with an error inside
-- `Hex`; and `NotText` for every other value
abbrev pub DecodesJson : {V E : Type 0} → (List ℕ → Result V E → Type 0) → Option (List ℕ) → Result V (JsonError E)
    → Type 0
DecodesJson results None r = r ≡ Err NotText
DecodesJson results (Some t) (Ok v) = results t (Ok v)
DecodesJson results (Some t) (Err NotText) = ⊥
DecodesJson results (Some t) (Err (Hex e)) = results t (Err e)

-- what the error for a JSON value prints, if it is known what the error for the text prints
abbrev pub json_message : {E : Type 0} → (E → Option (List ℕ)) → JsonError E → Option (List ℕ)
json_message message NotText = Some (codes "expected a hex encoded string")
json_message message (Hex e) = message e

-- ---- the characters that are left in an iterator over the text of bytes

-- the second digit of a byte whose first digit was returned, if there is one, and then the characters of the rest
abbrev pub with_low : Option ℕ → List ℕ → List ℕ
with_low None xs = xs
with_low (Some c) xs = c ∷ xs

-- the characters that are left
abbrev pub chars_left : {upper : ℕ} → Bool → BytesToHexChars upper → List ℕ
chars_left up s = with_low s.low (hex_text up s.bytes.now)

-- the size hint for exactly n items
abbrev pub exactly : ℕ → ℕ × Option ℕ
exactly n = (n, Some n)
