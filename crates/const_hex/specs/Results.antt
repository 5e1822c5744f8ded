-- The results for a text: its prefix, and the bytes or the error.
--
-- `t` is a text, `u` a text without a prefix, `bs` are bytes, `n` is their number, `r` a result, and `e` an error.
-- `Spells u bs` says that the digits u decode to the bytes bs, and `Partial old u new` what an output holds after u
-- was rejected.
use Rattle.std.specs.Prelude.{◌≡◌, ℕ, ◌+◌, ◌-◌, ◌==◌, nat_le, ◌&&◌, ◌||◌, if◌then◌else◌, List, [], ◌∷◌, length, map, slice_index, ◌*◌, ◌%◌, ◌≢◌, ◌<◌, ◌≤◌, Bool, Result, Ok, Err, ◌++◌, ◌↔◌, true, false, String, string_bytes, take, drop, IfOk, IfErr, OnOk, OnErr, IsOk, IsTrue, MatchResult, is_some}
use Rattle.const_hex_arch.specs.Texts.{FirstInvalidAt, hex_value, Spells, Partial, hex_text, full_text}
use Rattle.const_hex.specs.declared.error.FromHexError.{FromHexError}
use Rattle.const_hex.specs.declared.error.FromHexError.TheVariants.{OddLength, InvalidStringLength, InvalidHexCharacter, NoMemory}
use Rattle.std.specs.List.{list_all}

-- ---- a text without its prefix

-- the text without `0x` or `0X` at its start: one prefix is removed, never two
abbrev pub body_of : List ℕ → List ℕ
body_of [] = []
body_of (c ∷ []) = c ∷ []
body_of (c ∷ d ∷ u) = if (c == 48) && (d == 120 || d == 88) then u else c ∷ d ∷ u

-- `A` to `F` become `a` to `f`, and every other byte is kept
abbrev pub lowered : List ℕ → List ℕ
lowered u = map (λ b. if nat_le 65 b && nat_le b 70 then b + 32 else b) u

-- c is the first byte after the prefix of t that is not a digit, and `index` is its position in t
abbrev pub NamesFirstInvalid : List ℕ → ℕ → ℕ → Type 0
NamesFirstInvalid t c index =
    (p : ℕ) × FirstInvalidAt (body_of t) p × (c ≡ slice_index (body_of t) p) × (index ≡ p + (length t - length (body_of t)))

-- ---- the results for a text

abbrev pub IsOdd : ℕ → Type 0
IsOdd n = n % 2 ≡ 1

abbrev pub IsEven : ℕ → Type 0
IsEven n = n % 2 ≡ 0

-- every element is a byte
abbrev pub AreBytes : List ℕ → Type 0
AreBytes bs = (k : ℕ) → slice_index bs k < 256

-- the result when the text t is decoded: `OddLength` if the length of the whole text is odd; else the bytes that its
-- body decodes to, or else the first invalid character
abbrev pub DecodesTo : List ℕ → Result (List ℕ) FromHexError → Type 0
DecodesTo t (Ok bs) = IsEven (length t) × Spells (body_of t) bs
DecodesTo t (Err OddLength) = IsOdd (length t)
DecodesTo t (Err InvalidStringLength) = ⊥
DecodesTo t (Err (InvalidHexCharacter c i)) = IsEven (length t) × NamesFirstInvalid t c i
DecodesTo t (Err NoMemory) = ⊥

-- the result when t is decoded to n bytes: if the length is not odd, a body of another length is an error, before any
-- of its bytes is tested
abbrev pub DecodesToExactly : List ℕ → ℕ → Result (List ℕ) FromHexError → Type 0
DecodesToExactly t n (Ok bs) = (length (body_of t) ≡ 2 * n) × DecodesTo t (Ok bs)
DecodesToExactly t n (Err OddLength) = IsOdd (length t)
DecodesToExactly t n (Err InvalidStringLength) = IsEven (length t) × (length (body_of t) ≢ 2 * n)
DecodesToExactly t n (Err (InvalidHexCharacter c i)) =
    (length (body_of t) ≡ 2 * n) × DecodesTo t (Err (InvalidHexCharacter c i))
DecodesToExactly t n (Err NoMemory) = ⊥

-- whether every byte of u is a digit, as a test that can be computed
abbrev pub all_digits : List ℕ → Bool
all_digits u = list_all (λ b. is_some (hex_value b)) u

-- whether t is a text of n bytes: its body is 2 * n digits
abbrev pub is_text_of : ℕ → List ℕ → Bool
is_text_of n t = (length (body_of t) == 2 * n) && all_digits (body_of t)

-- the result when t is decoded into space for n bytes: if the length is not odd, a body with too many digits is an
-- error, before any of its bytes is tested
abbrev pub DecodesWithin : List ℕ → ℕ → Result (List ℕ) FromHexError → Type 0
DecodesWithin t n (Ok bs) = (length (body_of t) ≤ 2 * n) × DecodesTo t (Ok bs)
DecodesWithin t n (Err OddLength) = IsOdd (length t)
DecodesWithin t n (Err InvalidStringLength) = IsEven (length t) × (2 * n < length (body_of t))
DecodesWithin t n (Err (InvalidHexCharacter c i)) =
    (length (body_of t) ≤ 2 * n) × DecodesTo t (Err (InvalidHexCharacter c i))
DecodesWithin t n (Err NoMemory) = ⊥

-- the result when t is checked: the result when it is decoded, without the bytes
abbrev pub Checks : List ℕ → Result Unit FromHexError → Type 0
Checks t (Ok u) = (bs : List ℕ) × DecodesTo t (Ok bs)
Checks t (Err e) = DecodesTo t (Err e)

-- what an output that held `old` holds after an error for t
abbrev pub LeavesOutput : List ℕ → List ℕ → List ℕ → FromHexError → Type 0
LeavesOutput t old new OddLength = new ≡ old
LeavesOutput t old new InvalidStringLength = new ≡ old
LeavesOutput t old new (InvalidHexCharacter c i) = Partial old (body_of t) new
LeavesOutput t old new NoMemory = ⊥

-- ---- the contracts of the functions of the codec; functions that differ only in the kernel share a record

-- `encode`: the text is two digits for each byte
pub record Encodes {A E : Type 0} (up : Bool) (bs : List ℕ) (r : Result (String A) E) : Type 0 where
  pub text : IfOk r (λ s. string_bytes s ≡ hex_text up bs)
  -- the text of xs and then ys is the text of xs, and then the text of ys
  pub append : (xs ys : List ℕ) → bs ≡ xs ++ ys → IfOk r (λ s. string_bytes s ≡ hex_text up xs ++ hex_text up ys)

-- `encode_to_slice`: the output holds the text if it has exactly its length, and else is unchanged
pub record EncodesToSlice (length_of_text : ℕ) (text_of_bytes old new : List ℕ) (r : Result Unit FromHexError) : Type 0
  where
    pub fits : IsOk r ↔ (length old ≡ length_of_text)
    pub text : OnOk r (new ≡ text_of_bytes)
    pub error : OnErr r (r ≡ Err InvalidStringLength)
    pub unchanged : OnErr r (new ≡ old)

-- `decode`: the result for the text t, or out of memory for an even length
pub record Decodes {V : Type 0} (items : V → List ℕ) (t : List ℕ) (r : Result V FromHexError) : Type 0 where
  pub ok : IfOk r (λ v. DecodesTo t (Ok (items v)))
  pub err : IfErr r (λ e. e ≢ NoMemory → DecodesTo t (Err e))
  pub odd : (r ≡ Err OddLength) ↔ IsOdd (length t)
  -- what was encoded is decoded to the same bytes
  pub round_trip : (prefix up : Bool) (bs : List ℕ) → AreBytes bs → t ≡ full_text prefix up bs
      → MatchResult r (λ v. items v ≡ bs) (λ e. e ≡ NoMemory)
  -- the text of the bytes is the body in lowercase
  pub canonical : IfOk r (λ v. hex_text false (items v) ≡ lowered (body_of t))
  -- another text decodes to the same bytes if and only if the two bodies differ only in case
  pub agree : (u bs : List ℕ) → DecodesTo u (Ok bs)
      → IfOk r (λ v. (bs ≡ items v) ↔ (lowered (body_of u) ≡ lowered (body_of t)))

-- `decode_to_slice`: the result for the text t and an output of exactly its bytes, and what the output
-- holds; if the kernel checks a text first, every error leaves it unchanged
pub record DecodesToSlice (checks_first : Bool) (t old new : List ℕ) (r : Result Unit FromHexError) : Type 0 where
  pub ok : IfOk r (λ _. DecodesToExactly t (length old) (Ok new))
  pub err : IfErr r (λ e. DecodesToExactly t (length old) (Err e))
  pub after_error : IfErr r (λ e. LeavesOutput t old new e)
  pub unchanged : checks_first ≡ true → OnErr r (new ≡ old)

-- `decode_to_front`: the result for the text t and an output that may be larger, the number of bytes,
-- and what the output holds
pub record DecodesToFront (t old new : List ℕ) (r : Result ℕ FromHexError) : Type 0 where
  pub ok : IfOk r (λ n. DecodesWithin t (length old) (Ok (take n new)))
  pub count : IfOk r (λ n. length (body_of t) ≡ 2 * n)
  pub rest : IfOk r (λ n. drop n new ≡ drop n old)
  pub err : IfErr r (λ e. DecodesWithin t (length old) (Err e))
  pub after_error : IfErr r (λ e. LeavesOutput t old new e)

-- `decode_to_array`: the result for the text t and n bytes
pub record DecodesToArray (n : ℕ) (t : List ℕ) (r : Result (List ℕ) FromHexError) : Type 0 where
  pub outcome : DecodesToExactly t n r
  -- for a constant text this is computed, which proves that an `unwrap` succeeds
  pub accepts : IsOk r ↔ IsTrue (is_text_of n t)
  -- what was encoded of n bytes is decoded to the same bytes
  pub round_trip : (prefix up : Bool) (bs : List ℕ) → AreBytes bs → length bs ≡ n → t ≡ full_text prefix up bs
      → r ≡ Ok bs
  -- another text decodes to the same bytes if and only if the two bodies differ only in case
  pub agree : (u bs : List ℕ) → DecodesToExactly u n (Ok bs)
      → IfOk r (λ v. (bs ≡ v) ↔ (lowered (body_of u) ≡ lowered (body_of t)))
  -- this is the only result that meets `DecodesToExactly`
  pub unique : (s : Result (List ℕ) FromHexError) → DecodesToExactly t n s → s ≡ r

-- `check`: the result for the text t
pub record ChecksText (t : List ℕ) (r : Result Unit FromHexError) : Type 0 where
  pub outcome : Checks t r
  pub accepts : IsOk r ↔ ((bs : List ℕ) × DecodesTo t (Ok bs))
  -- this is the only result that meets `Checks`
  pub unique : (s : Result Unit FromHexError) → Checks t s → s ≡ r
