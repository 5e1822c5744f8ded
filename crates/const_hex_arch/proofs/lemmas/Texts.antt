-- What texts decode to, and the text of bytes.
--
-- `u` and `v` are texts, `bs` are the bytes that `u` decodes to, and `s` is the proof that it does: `Spells u bs`.
-- `c` and `d` are two digits, `h` and `l` their values, and `b` is the byte that they make. `up` asks for uppercase.
-- In a proof, the letters that its statement does not name are the hypotheses, in order.
use Rattle.std.proofs.Common.{◌≡◌, ℕ, zero, suc, ◌+◌, ◌*◌, ◌<◌, List, [], ◌∷◌, ◌++◌, length, take, drop, slice_index, Some, refl, arith, ◌≢◌, get_or, set, ◌/◌, ◌%◌, Bool, true, false, length-append, IsAscii}
use Rattle.std.proofs.lemmas.List.Elements.{All-nil, All-cons}
use Rattle.std.proofs.lemmas.Grind.{common_steps}
use Rattle.std.proofs.lemmas.List.{take_more, append_assoc}
use Rattle.std.proofs.lemmas.Bool.Decides.{nat_tests}
use Rattle.std.proofs.lemmas.Str.{IsUtf8-from_ascii}
use Rattle.std.proofs.lemmas.Str.Ascii.{IsAscii-nil, IsAscii-cons}
use Rattle.const_hex_arch.specs.{hex_value, IsDigit, IsPair, Spells, AllDigits, value_or_nil, hex_digit, hex_text, prefix_of, full_text, text_length}
use Rattle.const_hex_arch.proofs.lemmas.Digits.{IsDigit-from_value, hex_value-small, value_found}

-- two digits make a byte
pub IsPair-of : (c d h l b : ℕ) → hex_value c ≡ Some h → hex_value d ≡ Some l → b ≡ 16 * h + l → IsPair c d b
IsPair-of c d h l b p q e = record { high = h; low = l; high_is = p; low_is = q; byte_is = e }

-- the byte of a pair is below 256
pub IsPair-byte : (c d b : ℕ) → IsPair c d b → b < 256
IsPair-byte c d b p = omega (arith, hex_value-small c p.high p.high_is, hex_value-small d p.low p.low_is)

-- two texts, one after the other
pub Spells-append : (u bs v cs : List ℕ) → Spells u bs → Spells v cs → Spells (u ++ v) (bs ++ cs)
Spells-append [] [] v cs s t = t
Spells-append (x ∷ y ∷ u) (b ∷ bs) v cs s t = (s.0, Spells-append u bs v cs s.1 t)
Spells-append _ _ v cs s t = absurd s

-- a text that decodes to bytes has two digits for each
pub Spells-length : (u bs : List ℕ) → Spells u bs → length u ≡ 2 * length bs
Spells-length [] [] s = refl
Spells-length (x ∷ y ∷ u) (z ∷ bs) s = let e = Spells-length u bs s.1 in omega arith
Spells-length _ _ s = absurd s

-- the first pairs of a text decode to the first bytes, and the other pairs the other bytes
pub Spells-parts : (u bs : List ℕ) (k m : ℕ) → m ≡ 2 * k → Spells u bs
    → Spells (take m u) (take k bs) × Spells (drop m u) (drop k bs)
Spells-parts u bs zero zero e s = (tt, s)
Spells-parts [] [] (suc k) (suc (suc m)) e s = (tt, tt)
Spells-parts (x ∷ y ∷ u) (b ∷ bs) (suc k) (suc (suc m)) e s =
    let more = Spells-parts u bs k m (omega arith) s.1 in ((s.0, more.0), more.1)
Spells-parts _ _ (suc k) (suc (suc m)) e s = absurd s
Spells-parts _ _ _ _ e s = absurd (omega arith)

-- a text that decodes to bytes has only digits
pub Spells-digits : (u bs : List ℕ) → Spells u bs → AllDigits u
Spells-digits [] [] s = All-nil IsDigit
Spells-digits (x ∷ y ∷ u) (z ∷ bs) s =
    All-cons IsDigit x (y ∷ u) (IsDigit-from_value x s.0.high s.0.high_is)
    (All-cons IsDigit y u (IsDigit-from_value y s.0.low s.0.low_is) (Spells-digits u bs s.1))
Spells-digits _ _ s = absurd s

-- what a text decodes to are bytes
pub Spells-bytes : (u bs : List ℕ) → Spells u bs → (k : ℕ) → slice_index bs k < 256
Spells-bytes [] [] s k = omega arith
Spells-bytes (c ∷ d ∷ u) (b ∷ bs) s zero = IsPair-byte c d b s.0
Spells-bytes (c ∷ d ∷ u) (b ∷ bs) s (suc k) = Spells-bytes u bs s.1 k
Spells-bytes _ _ s k = absurd s

-- a pair decodes to one byte
IsPair-same : (c d a b : ℕ) → IsPair c d a → IsPair c d b → a ≡ b
IsPair-same c d a b p q = grind arith

-- a text decodes to one list of bytes
pub Spells-same : (u xs ys : List ℕ) → Spells u xs → Spells u ys → xs ≡ ys
Spells-same [] [] [] s t = refl
Spells-same (x ∷ y ∷ u) (a ∷ xs) (b ∷ ys) s t = cc (IsPair-same x y a b s.0 t.0, Spells-same u xs ys s.1 t.1)
Spells-same [] [] (b ∷ ys) s t = absurd t
Spells-same (x ∷ y ∷ u) (a ∷ xs) [] s t = absurd t
Spells-same _ _ _ s t = absurd s

-- the lemmas that the proof search of blocks may use
pub ruleset spelled = (Spells-append, Spells-same)

-- ---- one more pair of a text

-- one pair more is decoded
pub pair_more : (u new : List ℕ) (i high low : ℕ) → Spells (take (2 * i) u) (take i new) → 2 * i + 1 < length u
    → i < length new
    → high ≡ value_or_nil (hex_value (get_or u (2 * i) 0)) → low ≡ value_or_nil (hex_value (get_or u (2 * i + 1) 0))
    → high ≢ 255 → low ≢ 255
    → Spells (take (2 * (i + 1)) u) (take (i + 1) (set new i (high * 16 + low)))
pair_more u new i high low s h k e f p q =
    let end : 2 * (i + 1) ≡ 2 * i + 1 + 1 = omega arith in
    let front : take (i + 1) (set new i (high * 16 + low)) ≡ take i new ++ (high * 16 + low) ∷ [] =
    grind (arith, common_steps) in
    let first = value_found (get_or u (2 * i) 0) high e p in
    let second = value_found (get_or u (2 * i + 1) 0) low f q in
    rw (front, end, take_more u (2 * i + 1) 0 h, take_more u (2 * i) 0 (omega arith), append_assoc)
    (Spells-append _ _ _ _ s (IsPair-of _ _ high low _ first second (omega arith), tt))

-- ---- the text of bytes: its length, that it is ASCII, and that it decodes to the bytes

-- no bytes have the empty text
pub hex_text-nil : (up : Bool) → hex_text up [] ≡ []
unfolding hex_text
hex_text-nil up = refl

-- the text of two lists of bytes
pub hex_text-append : (up : Bool) (xs ys : List ℕ) → hex_text up (xs ++ ys) ≡ hex_text up xs ++ hex_text up ys
unfolding hex_text
hex_text-append up [] ys = refl
hex_text-append up (x ∷ xs) ys = cc (hex_text-append up xs ys)

-- the text has two digits for each byte
pub length-hex_text : (up : Bool) (bs : List ℕ) → length (hex_text up bs) ≡ 2 * length bs
unfolding hex_text
length-hex_text up [] = refl
length-hex_text up (b ∷ bs) = let e = length-hex_text up bs in omega (arith, e)

-- the text with a prefix has the length of the prefix more
pub length-full_text : (prefix up : Bool) (bs : List ℕ)
    → length (full_text prefix up bs) ≡ length (prefix_of prefix) + 2 * length bs
length-full_text prefix up bs = rw (length-append, length-hex_text)

-- the length of a text with a prefix is its `text_length`
pub full_text_size : (prefix up : Bool) (bs : List ℕ) → length (full_text prefix up bs) ≡ text_length prefix (length bs)
full_text_size prefix up bs = grind (arith, length-full_text)

-- the text of one byte
pub hex_text-one : (up : Bool) (bs : List ℕ) (i : ℕ) → i < length bs
    → hex_text up (take 1 (drop i bs)) ≡ hex_digit up (get_or bs i 0 / 16) ∷ hex_digit up (get_or bs i 0 % 16) ∷ []
unfolding hex_text
hex_text-one up bs i h =
    let one : take 1 (drop i bs) ≡ get_or bs i 0 ∷ [] = grind (arith, common_steps) in rw one

-- ---- the text is ASCII

-- a digit is ASCII
hex_digit-ascii : (up : Bool) (v : ℕ) → v < 16 → hex_digit up v < 128
hex_digit-ascii up v h = grind (arith, nat_tests)

-- the text of bytes is ASCII
pub IsAscii-hex_text : (up : Bool) (bs : List ℕ) → ((k : ℕ) → slice_index bs k < 256) → IsAscii (hex_text up bs)
unfolding hex_text
IsAscii-hex_text up [] h = IsAscii-nil
IsAscii-hex_text up (b ∷ bs) h =
    let small : b < 256 = h 0 in
    IsAscii-cons (hex_digit up (b / 16)) (hex_digit up (b % 16) ∷ hex_text up bs)
    (hex_digit-ascii up (b / 16) (omega arith))
    (IsAscii-cons (hex_digit up (b % 16)) (hex_text up bs) (hex_digit-ascii up (b % 16) (omega arith))
    (IsAscii-hex_text up bs (λ k. h (suc k))))

-- the text with a prefix is ASCII
pub IsAscii-full_text : (prefix up : Bool) (bs : List ℕ) → ((k : ℕ) → slice_index bs k < 256)
    → IsAscii (full_text prefix up bs)
IsAscii-full_text true up bs h =
    IsAscii-cons 48 (120 ∷ hex_text up bs) (omega arith)
    (IsAscii-cons 120 (hex_text up bs) (omega arith) (IsAscii-hex_text up bs h))
IsAscii-full_text false up bs h = IsAscii-hex_text up bs h

-- ---- the text decodes to the bytes

-- a digit has its value
hex_value-hex_digit : (up : Bool) (v : ℕ) → v < 16 → hex_value (hex_digit up v) ≡ Some v
hex_value-hex_digit up v h = grind (arith, nat_tests)

-- the text of bytes decodes to them
pub Spells-hex_text : (up : Bool) (bs : List ℕ) → ((k : ℕ) → slice_index bs k < 256) → Spells (hex_text up bs) bs
unfolding hex_text
Spells-hex_text up [] h = tt
Spells-hex_text up (b ∷ bs) h =
    let small : b < 256 = h 0 in
    let high = hex_value-hex_digit up (b / 16) (omega arith) in
    let low = hex_value-hex_digit up (b % 16) (omega arith) in
    (IsPair-of _ _ (b / 16) (b % 16) b high low (omega arith), Spells-hex_text up bs (λ k. h (suc k)))

-- the lemmas that the proof search of functions that encode may use
pub ruleset texts = (IsUtf8-from_ascii, IsAscii-full_text, hex_text-append)
