-- Table look-ups by a shuffle of a vector, the text of a vector of bytes, and vectors that are interleaved.
--
-- `v` has the lanes of a vector, and `n` is their number. `t` is the table of a look-up, and `js` are its indices.
-- `f` is the fact that each lane is a byte, or the function that each lane is passed to. `SwzOk` says that the
-- indices of a shuffle (`swizzle_dyn`) are valid in its blocks of 16 lanes, `swz_l` is its result, and `pick_l` that
-- of a shuffle by constant indices. `digits_l 256 n` are the n lowest bytes of a number, and `number_l` is its
-- inverse. Names that end in `_l` are operations on all lanes. In a proof, the letters that its statement does not
-- name are the hypotheses, in order.
use Rattle.std.proofs.Common.{◌≡◌, ℕ, ◌*◌, Bool, ltb, T, ◌||◌, List, [], ◌∷◌, ◌++◌, length, replicate, bit_and, sym, subst, ◌∙◌, arith, w8, Fits, length-append, zero, suc, ◌+◌, ◌/◌, ◌%◌, ◌^◌, ◌<◌, true, false, eqb, map, get_or, refl, ap, eqb→eq, bit_or}
use Rattle.std.specs.List.{AllZip, range_with_len, concat}
use Rattle.std.proofs.lemmas.Grind.{common_steps}
use Rattle.std.proofs.lemmas.Simd.{SwzOk, SwzOk-from_Each1, length-zip2, length-replicate, pick_l-range_with_len, Each1-get_or, SwzOk-from_below, swz_l, length-swz_l, get_or-swz_l_below}
use lib.Lanes.{zip2, Each1, pick_l, number_l, digits_l}
use mir.Val.{zeroes}
use Rattle.std.proofs.lemmas.List.{append-nil, ext_get_or, get_or-map, length-map}
use Rattle.const_hex_arch.proofs.lemmas.Standard.{holds_below, every_below, every_pair, same_below}
use Rattle.const_hex_arch.specs.{hex_digit, hex_text, nibbles_of, AllNibbles, bytes_of_nibbles}
use Rattle.const_hex_arch.proofs.lemmas.LaneValues.{joined}
use Rattle.const_hex_arch.proofs.lemmas.Texts.{hex_text-append}

-- ---- the indices of a table look-up, as `swizzle_dyn` does it

-- an index into a block of 16 entries, or one that is read as 0
abbrev is_position : ℕ → Bool
is_position j = zeroes 16 w8 j || ltb j 16

-- lanes after a mask are such indices, if all 256 bytes are
are_positions : (m : ℕ) → T (holds_below (λ x. is_position (bit_and x m)) 256) → (v : List ℕ) → Each1 (Fits w8) v
    → Each1 (λ j. T (is_position j)) (zip2 bit_and v (replicate (length v) m))
are_positions m t [] f = tt
are_positions m t (x ∷ v) f = (every_below (λ x. is_position (bit_and x m)) 256 t x f.0.fits, are_positions m t v f.1)

-- the indices of b blocks, after a mask
pub masked_ok : (m : ℕ) → T (holds_below (λ x. is_position (bit_and x m)) 256) → (b n : ℕ) (v : List ℕ) → n ≡ b * 16
    → (length v ≡ n) × Each1 (Fits w8) v
    → SwzOk w8 16 n 0 (zip2 bit_and v (replicate n m))
masked_ok m t b n v blocks f =
    let long = length-zip2 bit_and v (replicate n m) (f.0 ∙ sym (length-replicate n m)) in
    SwzOk-from_Each1 w8 16 b n 0 (zip2 bit_and v (replicate n m)) blocks (omega (arith, long, f.0))
    (subst (λ n. Each1 (λ j. T (is_position j)) (zip2 bit_and v (replicate n m))) f.0 (are_positions m t v f.1))

-- ---- a vector from its two halves

-- the halves of a vector of twice n lanes, which are picked from it and itself again
pub halves : (n : ℕ) (v : List ℕ) → length v ≡ 2 * n
    → pick_l 0 (v ++ v) (range_with_len 0 n) ++ pick_l 0 (v ++ v) (range_with_len n n) ≡ v
halves n v e = grind (arith, common_steps, length-append, pick_l-range_with_len)

-- a relation holds for all lanes if it holds for those of two vectors
both_zip : (R : ℕ → ℕ → Type 0) (v w a b : List ℕ) → AllZip R v a → AllZip R w b → AllZip R (v ++ w) (a ++ b)
both_zip R [] w [] b p q = q
both_zip R (x ∷ v) w (y ∷ a) b p q = (p.0, both_zip R v w a b p.1 q)
both_zip R _ w _ b p q = absurd p

-- a relation holds for all lanes of a vector if it holds for those of its two halves
pub by_halves : (R : ℕ → ℕ → Type 0) (n : ℕ) (v a b : List ℕ) → length v ≡ 2 * n
    → AllZip R (pick_l 0 (v ++ v) (range_with_len 0 n)) a
    → AllZip R (pick_l 0 (v ++ v) (range_with_len n n)) b → AllZip R v (a ++ b)
by_halves R n v a b e p q = subst (λ v. AllZip R v (a ++ b)) (halves n v e) (both_zip R _ _ a b p q)

-- ---- the nibbles of each byte, by a multiplication of 16-bit lanes

-- twice a number, by recursion, as `digits_l` counts
abbrev doubled : ℕ → ℕ
doubled zero = zero
doubled (suc n) = suc (suc (doubled n))

-- the lanes, each multiplied by 4097 and shifted right by 4, as one number
abbrev spread : ℕ → List ℕ → ℕ
spread n v =
    let times = zip2 (λ a b. a * b % 65536) (map (λ x. x) v) (replicate n 4097) in
    number_l 65536 (zip2 (λ a b. a / 2 ^ b) times (replicate n 4))

-- one lane: its lower byte is the high nibble, and its upper byte the low nibble
spread_at : (x : ℕ) → x < 256 → x * 4097 % 65536 / 16 ≡ x / 16 + 256 * (x % 16)
spread_at x h = eqb→eq _ _ (every_below (λ x. eqb (x * 4097 % 65536 / 16) (x / 16 + 256 * (x % 16))) 256 tt x h)

-- the bytes of all lanes are the nibbles
spread_nibbles : (v : List ℕ) → Each1 (Fits w8) v → digits_l 256 (doubled (length v)) (spread (length v) v) ≡ nibbles_of v
spread_nibbles [] f = refl
spread_nibbles (x ∷ v) f =
    let n = spread (length v) v in
    let here = spread_at x f.0.fits in
    let first : (x * 4097 % 65536 / 16 + 65536 * n) % 256 ≡ x / 16 = rw here (omega arith) in
    let second : (x * 4097 % 65536 / 16 + 65536 * n) / 256 % 256 ≡ x % 16 = rw here (omega arith) in
    let remainder : (x * 4097 % 65536 / 16 + 65536 * n) / 256 / 256 ≡ n = rw here (omega arith) in
    rw (first, second, remainder, spread_nibbles v f.1)

-- the same for n lanes
pub of_lanes : (n : ℕ) (v : List ℕ) → (length v ≡ n) × Each1 (Fits w8) v → digits_l 256 (doubled n) (spread n v) ≡ nibbles_of v
of_lanes n v f = subst (λ n. digits_l 256 (doubled n) (spread n v) ≡ nibbles_of v) f.0 (spread_nibbles v f.1)

-- each byte has two nibbles
length-nibbles_of : (v : List ℕ) → length (nibbles_of v) ≡ 2 * length v
length-nibbles_of [] = refl
length-nibbles_of (x ∷ v) = let rest = length-nibbles_of v in omega arith

-- each nibble is below 16
nibbles_below : (v : List ℕ) → Each1 (Fits w8) v → Each1 (λ j. j < 16) (nibbles_of v)
nibbles_below [] f = tt
nibbles_below (x ∷ v) f = (omega (arith, f.0.fits), (omega arith, nibbles_below v f.1))

-- the nibbles of n lanes are indices of b blocks
pub nibbles_ok : (b n : ℕ) (v : List ℕ) → (length v ≡ n) × Each1 (Fits w8) v → 2 * n ≡ b * 16
    → SwzOk w8 16 (2 * n) 0 (nibbles_of v)
nibbles_ok b n v f e =
    SwzOk-from_below w8 16 b (2 * n) 0 (nibbles_of v) e (omega (arith, length-nibbles_of v, f.0)) (nibbles_below v f.1)

-- ---- the digits of nibbles, by a table look-up

-- each block of the table t has the 16 digits
abbrev pub is_table : Bool → List ℕ → ℕ → Bool
is_table up t n = holds_below (λ i. holds_below (λ j. eqb (get_or t (16 * ((0 + i) / 16) + j) 0) (hex_digit up j)) 16) n

-- a look-up of nibbles in such a table returns their digits
pub looked_up : (up : Bool) (t js : List ℕ) (n : ℕ) → length js ≡ n → Each1 (λ j. j < 16) js → T (is_table up t n)
    → swz_l w8 16 t 0 js ≡ map (hex_digit up) js
looked_up up t js n long below table =
    ext_get_or 0 _ _ (rw (length-swz_l, length-map)) (λ i h.
    let lt : i < length js = omega (arith, length-swz_l w8 16 t 0 js) in
    let small : get_or js i 0 < 16 = Each1-get_or (λ j. j < 16) js i 0 lt below in
    let digit = every_pair (λ i j. eqb (get_or t (16 * ((0 + i) / 16) + j) 0) (hex_digit up j)) n 16 table i
    (get_or js i 0) (omega arith) small in
    rw (get_or-swz_l_below w8 16 t 0 js i lt small, get_or-map (hex_digit up) js i 0 0 lt) (eqb→eq _ _ digit))

-- the digits of the nibbles are the text
pub digits_of_nibbles : (up : Bool) (v : List ℕ) → map (hex_digit up) (nibbles_of v) ≡ hex_text up v
unfolding hex_text
digits_of_nibbles up [] = refl
digits_of_nibbles up (x ∷ v) = cc (digits_of_nibbles up v)

-- so a look-up of the nibbles returns the text
pub text_of_nibbles : (up : Bool) (n : ℕ) (t v : List ℕ) → (length v ≡ n) × Each1 (Fits w8) v → T (is_table up t (2 * n))
    → swz_l w8 16 t 0 (nibbles_of v) ≡ hex_text up v
text_of_nibbles up n t v f table =
    looked_up up t (nibbles_of v) (2 * n) (omega (arith, length-nibbles_of v, f.0)) (nibbles_below v f.1) table
    ∙ digits_of_nibbles up v

-- the table of the 16 digits, twice, and once
pub digits_are_table : (up : Bool)
    → T (is_table up (map (hex_digit up) (range_with_len 0 16) ++ map (hex_digit up) (range_with_len 0 16)) 32)
    × T (is_table up (map (hex_digit up) (range_with_len 0 16)) 16)
digits_are_table true = (tt, tt)
digits_are_table false = (tt, tt)

-- ---- two vectors of n lanes

-- two lists as one
pub concat_pair : (vs : List (List ℕ)) → length vs ≡ 2 → concat vs ≡ get_or vs 0 [] ++ get_or vs 1 []
concat_pair (a ∷ b ∷ []) e = ap (λ x. a ++ x) (append-nil b)
concat_pair _ e = absurd (omega arith)

-- the texts of both halves of a vector of 2 * n lanes
pub text_of_halves : (n : ℕ) (up : Bool) (v a b : List ℕ) → length v ≡ 2 * n
    → a ≡ hex_text up (pick_l 0 (v ++ v) (range_with_len 0 n))
    → b ≡ hex_text up (pick_l 0 (v ++ v) (range_with_len n n)) → a ++ b ≡ hex_text up v
text_of_halves n up v a b long p q = rw (p, q, ← hex_text-append, halves n v long)

-- ---- the high and the low nibbles, in two vectors

-- the high nibbles, by a shift
abbrev high_l : List ℕ → List ℕ
high_l v = zip2 (λ a b. a / 2 ^ b) v (replicate (length v) 4)

-- the low nibbles, by a mask
abbrev low_l : List ℕ → List ℕ
low_l v = zip2 bit_and v (replicate (length v) 15)

-- a shift by 4 divides each lane by 16
high_is : (v : List ℕ) → high_l v ≡ map (λ x. x / 16) v
high_is [] = refl
high_is (x ∷ v) = ap (λ l. x / 16 ∷ l) (high_is v)

-- a mask of 15 is the remainder of each lane by 16
low_is : (v : List ℕ) → Each1 (Fits w8) v → low_l v ≡ map (λ x. x % 16) v
low_is [] f = refl
low_is (x ∷ v) f =
    rw (eqb→eq _ _ (every_below (λ x. eqb (bit_and x 15) (x % 16)) 256 tt x f.0.fits), low_is v f.1) refl

-- the high nibbles are below 16
high_below : (v : List ℕ) → Each1 (Fits w8) v → Each1 (λ j. j < 16) (map (λ x. x / 16) v)
high_below [] f = tt
high_below (x ∷ v) f = (omega (arith, f.0.fits), high_below v f.1)

-- the low nibbles are below 16
low_below : (v : List ℕ) → Each1 (λ j. j < 16) (map (λ x. x % 16) v)
low_below [] = tt
low_below (x ∷ v) = (omega arith, low_below v)

-- the high nibbles are valid indices
pub high_ok : (v : List ℕ) → (length v ≡ 16) × Each1 (Fits w8) v
    → SwzOk w8 16 16 0 (zip2 (λ a b. a / 2 ^ b) v (replicate 16 4))
high_ok v f =
    subst (λ n. SwzOk w8 16 16 0 (zip2 (λ a b. a / 2 ^ b) v (replicate n 4))) f.0
    (rw (high_is v) (SwzOk-from_below w8 16 1 16 0 _ refl (omega (arith, length-map v (λ x. x / 16), f.0)) (high_below v f.1)))

-- ---- two vectors of 16 lanes, interleaved

-- the lanes of both vectors, in turn
abbrev interleaved_positions : List ℕ
interleaved_positions = 0 ∷ 16 ∷ 1 ∷ 17 ∷ 2 ∷ 18 ∷ 3 ∷ 19 ∷ 4 ∷ 20 ∷ 5 ∷ 21 ∷ 6 ∷ 22 ∷ 7 ∷ 23
    ∷ 8 ∷ 24 ∷ 9 ∷ 25 ∷ 10 ∷ 26 ∷ 11 ∷ 27 ∷ 12 ∷ 28 ∷ 13 ∷ 29 ∷ 14 ∷ 30 ∷ 15 ∷ 31 ∷ []

-- high and low nibbles, interleaved, are the nibbles in order; f is applied to each
interleaved_nibbles : (f : ℕ → ℕ) (v : List ℕ) → length v ≡ 16
    → pick_l 0 (map f (map (λ x. x / 16) v) ++ map f (map (λ x. x % 16) v)) interleaved_positions ≡ map f (nibbles_of v)
interleaved_nibbles f (a ∷ b ∷ c ∷ d ∷ e ∷ g ∷ h ∷ i ∷ j ∷ k ∷ l ∷ m ∷ n ∷ o ∷ p ∷ q ∷ []) long = refl
interleaved_nibbles f _ long = absurd (omega arith)

-- looked up and interleaved, they are the text
pub interleaved_text : (up : Bool) (v : List ℕ) → (length v ≡ 16) × Each1 (Fits w8) v
    → pick_l 0 (swz_l w8 16 (map (hex_digit up) (range_with_len 0 16)) 0 (zip2 (λ a b. a / 2 ^ b) v (replicate 16 4))
    ++ swz_l w8 16 (map (hex_digit up) (range_with_len 0 16)) 0 (zip2 bit_and v (replicate 16 15))) interleaved_positions
    ≡ hex_text up v
interleaved_text up v f =
    let t = map (hex_digit up) (range_with_len 0 16) in
    let high = looked_up up t (map (λ x. x / 16) v) 16 (omega (arith, length-map v (λ x. x / 16), f.0)) (high_below v f.1) (digits_are_table up).1 in
    let low = looked_up up t (map (λ x. x % 16) v) 16 (omega (arith, length-map v (λ x. x % 16), f.0)) (low_below v) (digits_are_table up).1 in
    subst (λ n. pick_l 0 (swz_l w8 16 t 0 (zip2 (λ a b. a / 2 ^ b) v (replicate n 4)) ++ swz_l w8 16 t 0 (zip2 bit_and v (replicate n 15))) interleaved_positions ≡ hex_text up v) f.0
    (rw (high_is v, low_is v f.1, high, low) (interleaved_nibbles (hex_digit up) v f.0 ∙ digits_of_nibbles up v))

-- ---- bytes from pairs of values

-- the bytes of n pairs of values from index i on; f is applied to the second value of each
abbrev pub pairs_from : (ℕ → ℕ) → ℕ → ℕ → List ℕ → List ℕ
pairs_from f i zero u = []
pairs_from f i (suc n) u = bit_or (get_or u i 0 * 16 % 256) (f (get_or u (suc i) 0)) ∷ pairs_from f (suc (suc i)) n u

-- two values more before the others shift the index by two
after_two : (f : ℕ → ℕ) (h l i n : ℕ) (u : List ℕ) → pairs_from f (suc (suc i)) n (h ∷ l ∷ u) ≡ pairs_from f i n u
after_two f h l i zero u = refl
after_two f h l i (suc n) u =
    ap (λ x. bit_or (get_or u i 0 * 16 % 256) (f (get_or u (suc i) 0)) ∷ x) (after_two f h l (suc (suc i)) n u)

-- the bytes of all pairs, if f changes no nibble
pub pairs_are : (f : ℕ → ℕ) → ((l : ℕ) → l < 16 → f l ≡ l) → (n : ℕ) (u : List ℕ) → length u ≡ 2 * n → AllNibbles u
    → pairs_from f 0 n u ≡ bytes_of_nibbles u
pairs_are f k zero [] e a = refl
pairs_are f k (suc n) (h ∷ l ∷ u) e a =
    rw (k l (omega arith), joined h l (omega arith) (omega arith), after_two f h l 0 n u, pairs_are f k n u (omega arith) a.1.1) refl
pairs_are f k _ _ e a = absurd (omega arith)

-- a mask of 15 changes no nibble
pub masked : (l : ℕ) → l < 16 → bit_and l 15 ≡ l
masked l h = same_below (λ l. bit_and l 15) (λ l. l) 16 tt l h
