-- Lemmas for the search for the first invalid character.
--
-- `b` and `c` are bytes, and `v` and `w` are what the table has for them: the value of a digit, or 255. `u` is the
-- text, and its first `i` bytes are digits.
use Rattle.std.proofs.Common.{◌≡◌, ◌≢◌, ◌+◌, ◌<◌, ◌↔◌, ℕ, List, length, take, get_or, bit_or, ltb, IsTrue, arith}
use Rattle.std.proofs.lemmas.Bool.Decides.{nat_tests}
use Rattle.const_hex.specs.Prelude.{AllDigits, IsDigit, value_or_nil, hex_value}
use Rattle.std.proofs.lemmas.Nat.{or_lt}
use Rattle.const_hex_arch.proofs.lemmas.Digits.{digit_small, two_digits, digits_more}

-- the table has a value for a digit
pub has_value : (b : ℕ) → IsDigit b → value_or_nil (hex_value b) ≢ 255
has_value b digit = grind (arith, nat_tests)

-- one test of two table look-ups
pub both_digits : (b c v w : ℕ) → v ≡ value_or_nil (hex_value b) → w ≡ value_or_nil (hex_value c)
    → IsTrue (ltb (bit_or v w) 128) ↔ (IsDigit b × IsDigit c)
both_digits b c v w e f = (
  λ small. two_digits b c v w e f (grind (arith, nat_tests)),
  λ both.
      let below = or_lt 4 v w (digit_small b v e both.0) (digit_small c w f both.1) in
      grind (arith, nat_tests),
)

-- the text has two more digits
pub two_more : (u : List ℕ) (i j next : ℕ) → j < length u → j ≡ i + 1 → next ≡ j + 1 → IsDigit (get_or u i 0)
    → IsDigit (get_or u j 0) → AllDigits (take i u) → AllDigits (take next u)
two_more u i j next within one two first second done =
    let middle = digits_more u i done (omega (arith, within, one)) (has_value (get_or u i 0) first) in
    rw two (digits_more u j (rw one middle) within (has_value (get_or u j 0) second))
