-- Digits, their values, and texts of digits.
--
-- `b` is a byte, `v` its value, and `r` what the table of the look-up has for it: the value, or 255 (NIL). `u` is a
-- text, and `i` of its bytes are known to be digits. In a proof, the letters that its statement does not name are the
-- hypotheses, in order.
use Rattle.std.proofs.Common.{◌≡◌, ℕ, ◌<◌, ◌≢◌, get_or, bit_or, Option, Some, IsSome, IsNone, refl, arith, ◌+◌, ◌↔◌, List, ◌++◌, length, take, drop, take-append-drop, take_at, drop_at}
use Rattle.std.proofs.lemmas.Bool.Decides.{nat_tests}
use Rattle.std.proofs.lemmas.Nat.{le_or_l, le_or_r}
use Rattle.std.proofs.lemmas.List.Elements.{All-append, All-take, All-drop, All-get_or, All-more}
use Rattle.const_hex_arch.specs.declared.tables.TheConstants.{HEX_DECODE_LUT}
use Rattle.const_hex_arch.specs.{hex_value, value_or_nil, IsDigit, AllDigits}
use Rattle.const_hex_arch.proofs.lemmas.Standard.{same_below}

-- a byte that has a value is a digit
pub IsDigit-from_value : (b v : ℕ) → hex_value b ≡ Some v → IsDigit b
IsDigit-from_value b v h = rw h refl

-- a digit's value is below 16
pub hex_value-small : (b v : ℕ) → hex_value b ≡ Some v → v < 16
hex_value-small b v h = grind (arith, nat_tests)

-- a look-up that does not return 255 returns the value of the byte
pub value_found : (b r : ℕ) → r ≡ value_or_nil (hex_value b) → r ≢ 255 → hex_value b ≡ Some r
value_found b r e n = grind (arith, nat_tests)

-- a look-up that returns 255 shows that the byte has no value
pub value_not_found : (b r : ℕ) → r ≡ value_or_nil (hex_value b) → r ≡ 255 → IsNone (hex_value b)
value_not_found b r e n = grind (arith, nat_tests)

-- the table of the look-up has the right entry for each byte
pub in_table : (b : ℕ) → b < 256 → get_or HEX_DECODE_LUT.now b 0 ≡ value_or_nil (hex_value b)
in_table = same_below (λ b. get_or HEX_DECODE_LUT.now b 0) (λ b. value_or_nil (hex_value b)) 256 tt

-- for a digit, a look-up returns its value
pub digit_found : (b r : ℕ) → r ≡ value_or_nil (hex_value b) → IsDigit b → hex_value b ≡ Some r
digit_found b r e n = grind (arith, nat_tests)

-- for a digit, a look-up returns a value below 16
pub digit_small : (b r : ℕ) → r ≡ value_or_nil (hex_value b) → IsDigit b → r < 16
digit_small b r e digit = hex_value-small b r (digit_found b r e digit)

-- two look-ups without a bit that only NIL has
pub two_digits : (b c v w : ℕ) → v ≡ value_or_nil (hex_value b) → w ≡ value_or_nil (hex_value c) → bit_or v w < 128
    → IsDigit b × IsDigit c
two_digits b c v w e f below = grind (arith, IsDigit-from_value, value_found, le_or_l, le_or_r)

-- an option cannot be both None and Some
pub no_value : (o : Option ℕ) → IsNone o → IsSome o → ⊥
no_value o n s = cc

-- ---- texts of digits alone

-- two texts, one after the other, have only digits if and only if each of them has
pub digits_append : (xs ys : List ℕ) → AllDigits (xs ++ ys) ↔ (AllDigits xs × AllDigits ys)
digits_append xs ys =
    let n = length xs in
    let front = rw (take_at xs ys n refl) at (All-take IsDigit n (xs ++ ys)) in
    let back = rw (drop_at xs ys n refl) at (All-drop IsDigit n (xs ++ ys)) in
    (λ h. (front h, back h), λ h. All-append IsDigit xs ys h.0 h.1)

-- the same for a text that is cut at i
pub digits_parts : (i : ℕ) (u : List ℕ) → AllDigits u ↔ (AllDigits (take i u) × AllDigits (drop i u))
digits_parts i u = let parts = digits_append (take i u) (drop i u) in rw take-append-drop at parts

-- one byte more of a text, which the look-up takes for a digit
pub digits_more : (u : List ℕ) (i : ℕ) → AllDigits (take i u) → i < length u
    → value_or_nil (hex_value (get_or u i 0)) ≢ 255 → AllDigits (take (i + 1) u)
digits_more u i a h n =
    All-more IsDigit u i 0 h a (IsDigit-from_value (get_or u i 0) _ (value_found (get_or u i 0) _ refl n))

-- the look-up takes each byte of digits for one
pub digit_values : (u : List ℕ) (i : ℕ) → AllDigits u → i < length u → value_or_nil (hex_value (get_or u i 0)) ≢ 255
digit_values u i a h = let d = All-get_or IsDigit u i 0 h a in grind (arith, nat_tests)
