-- Proofs of the law `faithful` of `FromHex`, for each kind of type. A law is a statement that a trait demands of each
-- impl.
--
-- `results t r` says that a type may have the result r for the text t, and `h` is the fact that it may. `bytes` and
-- `items` are the bytes and the elements of a value, `fits` are the numbers of bytes that a value may have, and
-- `is_memory` says which errors mean out of memory.
use Rattle.std.proofs.Common.{inl, inr, sym, ◌∙◌, arith, ◌≡◌, ℕ, suc, ◌*◌, ◌%◌, ◌<◌, ◌≢◌, Bool, List, [], ◌∷◌, length, map, ℤ, Result, Ok, Err, refl}
use Rattle.std.proofs.lemmas.Bool.{cases_eq}
use Rattle.std.proofs.lemmas.Bool.Decides.{nat_tests}
use Rattle.const_hex_arch.proofs.lemmas.FirstInvalid.{Spells-some, digits_or_invalid}
use Rattle.const_hex_arch.proofs.lemmas.Texts.{Spells-length, Spells-bytes}
use Rattle.const_hex.specs.Results.{body_of, DecodesTo, DecodesToExactly, AreBytes, IsEven}
use Rattle.const_hex.specs.Types.{signed_of, byte_of, is_no_memory, AnyCount, IsCount, IsRejected, IsFaithful, DecodesToOwned, DecodesToValue, DecodesToSigned, DecodesToPointer}
use Rattle.const_hex.specs.declared.error.FromHexError.{FromHexError}
use Rattle.const_hex.specs.declared.error.FromHexError.TheVariants.{OddLength, InvalidStringLength, InvalidHexCharacter, NoMemory}

-- ---- each text has a result

-- a prefix has two bytes
pub body-parity : (t : List ℕ) → length (body_of t) % 2 ≡ length t % 2
body-parity t = grind arith

-- every text has a result
pub DecodesTo-some : (t : List ℕ) → (r : Result (List ℕ) FromHexError) × DecodesTo t r
DecodesTo-some t =
    elim (cases_eq (length t % 2) 1) [
      | inl odd ↦ (Err OddLength, odd)
      | inr not_odd ↦
          let even : IsEven (length t) = omega arith in
          elim (digits_or_invalid (body_of t)) [
            | inl a ↦ let (bs, s) = Spells-some (body_of t) (body-parity t ∙ even) a in (Ok bs, (even, s))
            | inr (p, invalid) ↦ (Err (InvalidHexCharacter _ _), (even, (p, invalid, refl, refl)))
          ]
    ]

-- these results have the law of types that are read from text
abbrev pub AreFaithful : {V E : Type 0} → (V → List ℕ) → (ℕ → Type 0) → (E → Bool)
    → (List ℕ → Result V E → Type 0) → Type 0
AreFaithful bytes fits is_memory results =
    (t : List ℕ) (r : Result _ _) → results t r → IsFaithful bytes fits is_memory t r

-- ---- owned bytes

-- types that own their bytes are faithful
pub DecodesToOwned-faithful : {V : Type 0} (bytes : V → List ℕ)
    → AreFaithful bytes AnyCount is_no_memory (DecodesToOwned bytes)
DecodesToOwned-faithful bytes t (Ok v) h = (h, tt)
DecodesToOwned-faithful bytes t (Err e) h = λ known. inl (e, grind (arith, known))

-- ---- arrays

-- a body of another length is an error, or its bytes do not fit
unfit : (n : ℕ) (t : List ℕ) → length (body_of t) ≢ 2 * n → (r : Result (List ℕ) FromHexError) × DecodesTo t r
    → IsRejected (IsCount n) t
unfit n t other (Ok bs, h) = inr (bs, h, λ same. other (omega (arith, Spells-length (body_of t) bs h.1, same)))
unfit n t other (Err e, h) = inl (e, h)

-- arrays are faithful
pub DecodesToExactly-faithful : (n : ℕ) → AreFaithful (λ bs. bs) (IsCount n) is_no_memory (λ t r. DecodesToExactly t n r)
DecodesToExactly-faithful n t (Ok bs) h = (h.1, omega (arith, Spells-length (body_of t) bs h.1.1, h.0))
DecodesToExactly-faithful n t (Err OddLength) h = λ _. inl (OddLength, h)
DecodesToExactly-faithful n t (Err InvalidStringLength) h = λ _. unfit n t h.1 (DecodesTo-some t)
DecodesToExactly-faithful n t (Err (InvalidHexCharacter c i)) h = λ _. inl (InvalidHexCharacter c i, h.1)
DecodesToExactly-faithful n t (Err NoMemory) h = absurd h

-- ---- signed elements

-- a byte comes back from its signed number
byte_of-signed_of : (b : ℕ) → b < 256 → byte_of (signed_of b) ≡ b
byte_of-signed_of b h = grind (arith, nat_tests)

-- bytes come back from their signed numbers
bytes_back : (bs : List ℕ) → AreBytes bs → map byte_of (map signed_of bs) ≡ bs
bytes_back [] h = refl
bytes_back (b ∷ bs) h = rw (byte_of-signed_of b (h 0), bytes_back bs (λ k. h (suc k))) refl

module _ {V : Type 0} (items : V → List ℤ) (fits : ℕ → Type 0)
    (results : List ℕ → Result (List ℕ) FromHexError → Type 0) where
  -- the law for signed elements is the law for the bytes
  pub DecodesToSigned-faithful : AreFaithful (λ bs. bs) fits is_no_memory results
      → AreFaithful (λ v. map byte_of (items v)) fits is_no_memory (DecodesToSigned items results)
  DecodesToSigned-faithful law t (Ok v) h =
      let of_bytes = law t (Ok h.0) h.1 in
      rw (h.2, bytes_back h.0 (Spells-bytes (body_of t) h.0 of_bytes.0.1)) of_bytes
  DecodesToSigned-faithful law t (Err e) h = law t (Err e) h

-- ---- a type of your own

-- a type whose values stand for bytes is faithful if the results for the bytes are
pub DecodesToValue-faithful : {V : Type 0} (bytes : V → List ℕ) (fits : ℕ → Type 0)
    (results : List ℕ → Result (List ℕ) FromHexError → Type 0) → AreFaithful (λ bs. bs) fits is_no_memory results
    → AreFaithful bytes fits is_no_memory (DecodesToValue bytes results)
DecodesToValue-faithful bytes fits results law t (Ok v) h = law t (Ok (bytes v)) h
DecodesToValue-faithful bytes fits results law t (Err e) h = law t (Err e) h

-- ---- pointers

-- a pointer is faithful if its target is
pub DecodesToPointer-faithful : {W V E : Type 0} (target : W → V) (bytes : V → List ℕ) (fits : ℕ → Type 0)
    (is_memory : E → Bool) (results : List ℕ → Result V E → Type 0) → AreFaithful bytes fits is_memory results
    → AreFaithful (λ w. bytes (target w)) fits is_memory (DecodesToPointer target is_memory results)
DecodesToPointer-faithful target bytes fits is_memory results law t (Ok w) h = law t (Ok (target w)) h
DecodesToPointer-faithful target bytes fits is_memory results law t (Err e) (inl h) = law t (Err e) h
DecodesToPointer-faithful target bytes fits is_memory results law t (Err e) (inr h) = λ no. cc (sym h.0 ∙ no)
