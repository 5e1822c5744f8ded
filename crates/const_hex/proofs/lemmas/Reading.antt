-- Each text has exactly one result when it is decoded.
--
-- `t` is the text, `r` and `s` are results for it, and `h` and `k` are the facts that they are. `DecodesTo t r` says
-- that t decodes to the result r, `DecodesToExactly t n r` the same for n bytes, and `Spells u bs` that the digits u
-- decode to bs.
use Rattle.std.proofs.Common.{◌≡◌, ℕ, ◌*◌, List, length, Result, Ok, Err, refl, ap, ◌∙◌, arith, eqb-true, eq-eqb, IsOk, IsTrue, ◌↔◌}
use Rattle.std.proofs.lemmas.Bool.{and_parts, and_from}
use Rattle.std.proofs.lemmas.List.Sums.{AllPass-from_list_all, list_all-from_AllPass}
use Rattle.const_hex.specs.Prelude.{Spells, AllDigits, FirstInvalidAt, body_of, DecodesTo, DecodesToExactly, Checks, ChecksText, IsEven, is_text_of, body-parity, FromHexError}
use Rattle.const_hex_arch.proofs.lemmas.FirstInvalid.{Spells-some, FirstInvalidAt-unique, digits_not_invalid}
use Rattle.const_hex_arch.proofs.lemmas.Texts.{Spells-same, Spells-digits}

-- no text decodes to bytes and has an invalid character
pub Spells-not_invalid : (u bs : List ℕ) (p : ℕ) → Spells u bs → FirstInvalidAt u p → ⊥
Spells-not_invalid u bs p s f = digits_not_invalid u p (Spells-digits u bs s) f

-- the result of `DecodesTo` is unique
pub result_unique : (t : List ℕ) (r s : Result (List ℕ) FromHexError) → DecodesTo t r → DecodesTo t s → r ≡ s
result_unique t (Ok a) (Ok b) h k = ap Ok (Spells-same (body_of t) a b h.1 k.1)
result_unique t (Err e) (Err f) h k = ap Err (grind (arith, FirstInvalidAt-unique))
result_unique t _ _ h k = absurd (grind (arith, Spells-not_invalid))

-- the result of `DecodesToExactly` is unique
pub sized_result_unique : (t : List ℕ) (n : ℕ) (r s : Result (List ℕ) FromHexError) → DecodesToExactly t n r
    → DecodesToExactly t n s → r ≡ s
sized_result_unique t n (Ok a) (Ok b) h k = result_unique t (Ok a) (Ok b) h.1 k.1
sized_result_unique t n (Err e) (Err f) h k = ap Err (grind (arith, FirstInvalidAt-unique))
sized_result_unique t n _ _ h k = absurd (grind (arith, Spells-not_invalid))

-- the result of `Checks` is unique
pub check_result_unique : (t : List ℕ) (r s : Result Unit FromHexError) → Checks t r → Checks t s → r ≡ s
check_result_unique t (Ok u) (Ok v) h k = refl
check_result_unique t (Err e) (Err f) h k = cc (result_unique t (Err e) (Err f) h k)
check_result_unique t _ _ h k = absurd (grind (arith, Spells-not_invalid))

-- ---- the results of the functions

-- from `Checks` follow all fields of the contract of `check`
pub ChecksText-from_Checks : (t : List ℕ) (r : Result Unit FromHexError) → Checks t r → ChecksText t r
ChecksText-from_Checks t (Ok u) h =
    record { outcome = h; accepts = (λ _. h, λ _. refl); unique = λ s k. check_result_unique t s (Ok u) k h }
ChecksText-from_Checks t (Err e) h = record {
  outcome = h;
  accepts = (λ is_ok. absurd (cc is_ok), λ reads. absurd (cc (check_result_unique t (Ok tt) (Err e) reads h)));
  unique = λ s k. check_result_unique t s (Err e) k h;
}

-- a text of digits with an even length decodes to bytes
pub DecodesTo-digits : (t : List ℕ) → IsEven (length t) → AllDigits (body_of t) → (bs : List ℕ) × DecodesTo t (Ok bs)
DecodesTo-digits t even a = let s = Spells-some (body_of t) (body-parity t ∙ even) a in (s.0, (even, s.1))

-- ---- texts of n bytes

-- what the test `is_text_of` means
is_text-parts : (n : ℕ) (t : List ℕ) → IsTrue (is_text_of n t) → (length (body_of t) ≡ 2 * n) × AllDigits (body_of t)
is_text-parts n t e = let p = and_parts _ _ e in (eqb-true _ _ p.0, AllPass-from_list_all _ (body_of t) p.1)

-- a text decodes to n bytes if and only if the test accepts it
pub sized_accepts : (n : ℕ) (t : List ℕ) (r : Result (List ℕ) FromHexError) → DecodesToExactly t n r
    → IsOk r ↔ IsTrue (is_text_of n t)
sized_accepts n t (Ok bs) h = (
  λ _. and_from _ _ (eq-eqb _ _ h.0) (list_all-from_AllPass _ (body_of t) (Spells-digits (body_of t) bs h.1.1)),
  λ _. refl,
)
sized_accepts n t (Err e) h = (
  λ is_ok. absurd (cc is_ok),
  λ accepted. absurd (grind (arith, digits_not_invalid, body-parity, is_text-parts n t accepted)),
)

-- the lemmas that the proof search of `check_with` may use
pub ruleset checked = (DecodesTo-digits, Spells-not_invalid)
