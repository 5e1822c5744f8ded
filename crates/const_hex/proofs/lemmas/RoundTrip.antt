-- Encoded text decodes to the same bytes, and the decoded bytes encode to the text in lowercase.
--
-- `t` and `u` are texts, `bs` are bytes, `r` is the result of decoding `t`, and `up` asks for uppercase. `DecodesTo t
-- r` says that t decodes to the result r, `DecodesToExactly t n r` the same for n bytes, and `Spells u bs` that the
-- digits u decode to bs. In a proof, the letters that its statement does not name are the hypotheses, in order.
use Rattle.std.proofs.Common.{◌≡◌, ℕ, ◌+◌, ◌/◌, ◌%◌, nat_le, ◌&&◌, if◌then◌else◌, false, List, [], ◌∷◌, Some, refl, sym, ◌∙◌, arith, ◌↔◌, ◌*◌, Bool, true, length, Result, Ok, Err, IfOk, IfErr, ◌≢◌}
use Rattle.std.proofs.lemmas.Bool.Decides.{nat_tests}
use Rattle.const_hex.specs.Prelude.{hex_value, hex_digit, hex_text, Spells, lowered, full_text, body_of, DecodesTo, DecodesToExactly, IsOdd, AreBytes, Decodes, DecodesToArray, FromHexError, NoMemory, OddLength}
use Rattle.const_hex_arch.proofs.lemmas.Digits.{hex_value-small}
use Rattle.const_hex_arch.proofs.lemmas.Texts.{Spells-same, Spells-bytes, Spells-hex_text, length-hex_text, length-full_text}
use Rattle.const_hex.proofs.lemmas.Reading.{result_unique, sized_result_unique, sized_accepts}

-- the lowercase digit of a digit's value
lowered_digit : (c v : ℕ) → hex_value c ≡ Some v
    → hex_digit false v ≡ (if nat_le 65 c && nat_le c 70 then c + 32 else c)
lowered_digit c v h = grind (arith, nat_tests)

-- the bytes that a text decodes to encode to this text in lowercase
pub hex_text-lowered : (u bs : List ℕ) → Spells u bs → hex_text false bs ≡ lowered u
unfolding hex_text
hex_text-lowered [] [] s = refl
hex_text-lowered (c ∷ d ∷ u) (b ∷ bs) s =
    let low = hex_value-small d s.0.low s.0.low_is in
    let e = s.0.byte_is in
    let h : b / 16 ≡ s.0.high = omega (arith, low, e) in
    let l : b % 16 ≡ s.0.low = omega (arith, low, e) in
    rw (h, l, lowered_digit c s.0.high s.0.high_is, lowered_digit d s.0.low s.0.low_is, hex_text-lowered u bs s.1) refl
hex_text-lowered _ _ s = absurd s

-- two texts decode to the same bytes if and only if they are the same in lowercase
pub Spells-agree : (u v xs ys : List ℕ) → Spells u xs → Spells v ys → (xs ≡ ys) ↔ (lowered u ≡ lowered v)
Spells-agree u v xs ys s t =
    let a = hex_text-lowered u xs s in
    let b = hex_text-lowered v ys t in
    let of_xs = Spells-hex_text false xs (Spells-bytes u xs s) in
    let of_ys = Spells-hex_text false ys (Spells-bytes v ys t) in
    (λ e. cc, λ e. Spells-same (hex_text false xs) xs ys of_xs (rw (a ∙ e ∙ sym b) of_ys))

-- the lemmas that the proof search of callers may use
pub ruleset read_back = (hex_text-lowered, Spells-agree)

-- ---- encoded text decodes to the same bytes

-- the body of a text with a prefix is its digits
pub body-full_text : (prefix up : Bool) (bs : List ℕ) → body_of (full_text prefix up bs) ≡ hex_text up bs
unfolding hex_text
body-full_text true up bs = refl
body-full_text false up [] = refl
body-full_text false up (b ∷ bs) = grind (arith, nat_tests)

-- a text that was encoded from bytes decodes to them
pub DecodesTo-full_text : (t : List ℕ) (prefix up : Bool) (bs : List ℕ) → AreBytes bs → t ≡ full_text prefix up bs
    → DecodesTo t (Ok bs)
DecodesTo-full_text t prefix up bs h e = grind (arith, length-full_text, body-full_text, Spells-hex_text)

-- ---- the results for any text

-- from the clauses ok, err and odd follow all fields of the contract of `decode`
pub Decodes-from : {V : Type 0} (items : V → List ℕ) (t : List ℕ) (r : Result V FromHexError)
    → IfOk r (λ v. DecodesTo t (Ok (items v))) → IfErr r (λ e. e ≢ NoMemory → DecodesTo t (Err e))
    → (r ≡ Err OddLength) ↔ IsOdd (length t) → Decodes items t r
Decodes-from items t (Ok v) ok err odd = record {
  ok = ok;
  err = err;
  odd = odd;
  round_trip = λ prefix up bs h e. cc (result_unique t (Ok (items v)) (Ok bs) ok (DecodesTo-full_text t prefix up bs h e));
  canonical = hex_text-lowered (body_of t) (items v) ok.1;
  agree = λ u bs k. Spells-agree (body_of u) (body_of t) bs (items v) k.1 ok.1;
}
Decodes-from items t (Err f) ok err odd = record {
  ok = ok;
  err = err;
  odd = odd;
  round_trip = λ prefix up bs h e.
      let other = λ (not_memory : f ≢ NoMemory).
      result_unique t (Err f) (Ok bs) (err not_memory) (DecodesTo-full_text t prefix up bs h e) in
      grind (arith, other);
  canonical = tt;
  agree = λ u bs k. tt;
}

-- two texts decode to the same n bytes if and only if they are the same in lowercase
pub sized_agree : (n : ℕ) (t : List ℕ) (r : Result (List ℕ) FromHexError) → DecodesToExactly t n r
    → (u bs : List ℕ) → DecodesToExactly u n (Ok bs) → IfOk r (λ v. (bs ≡ v) ↔ (lowered (body_of u) ≡ lowered (body_of t)))
sized_agree n t (Ok v) h u bs k = Spells-agree (body_of u) (body_of t) bs v k.1.1 h.1.1
sized_agree n t (Err e) h u bs k = tt

-- from `DecodesToExactly` follow all fields of the contract of `decode_to_array`
pub DecodesToArray-from_DecodesToExactly : (n : ℕ) (t : List ℕ) (r : Result (List ℕ) FromHexError) → DecodesToExactly t n r
    → DecodesToArray n t r
DecodesToArray-from_DecodesToExactly n t r h = record {
  outcome = h;
  accepts = sized_accepts n t r h;
  round_trip = λ prefix up bs bytes len e.
      let twice : length (body_of t) ≡ 2 * n = rw (e, body-full_text prefix up bs, length-hex_text up bs, len) refl in
      sized_result_unique t n r (Ok bs) h (twice, DecodesTo-full_text t prefix up bs bytes e);
  agree = sized_agree n t r h;
  unique = λ s k. sized_result_unique t n s r k h;
}
