-- Digits in vectors of any number of lanes: their values, the bytes that they make, and the tests of lanes. The
-- numbers are those of lanes16.rt and lanes.rt, which docs/DESIGN.md explains under "Checking and decoding one
-- vector": adding 208 subtracts `0`, 143 (0x8F) is the part of a byte that looks up its limit, and 216 (0xD8) is the
-- mask of the error bits.
--
-- `v` has the lanes of a vector, `ns` has their values, and `n` is the value of the byte `b`. `h` and `l` are a high
-- and a low nibble. `f` is the fact that each lane is a byte. `AllZip R v ns` says that R holds for each lane and its
-- value, `zip2` applies an operation to the lanes of two vectors, and `sel_l` selects lanes by a mask. `digits_l k n`
-- are the n lowest digits of a number to the base k, and `number_l` is its inverse. Names that end in `_l` are
-- operations on all lanes. `Spells u bs` says that the digits u decode to bs. In a proof, the letters that its
-- statement does not name are the hypotheses, in order.
use Rattle.std.proofs.Common.{◌≡◌, ℕ, ◌+◌, ◌-◌, ◌%◌, ◌^◌, ◌<◌, ◌≤◌, Bool, true, false, cond, eqb, ltb, T, ◌||◌, List, [], ◌∷◌, map, length, replicate, get_or, bit_and, refl, ap, arith, w8, Fits, Option, Some, None, IsSome, is_none, eqb→eq, zero, suc, ◌*◌, ◌/◌, ◌++◌, take, drop, sym, ◌∙◌, le-leb, length-append, ◌↔◌, ltb→lt, bit_or, subst, IsTrue, is_some}
use Rattle.std.specs.List.{AllZip}
use Rattle.std.proofs.lemmas.Bool.{false≢true, agree_below, agree_below_at}
use Rattle.std.proofs.lemmas.Bool.Decides.{nat_tests}
use Rattle.std.proofs.lemmas.List.Elements.{All-head, All-tail, All-nil, All-cons}
use lib.Lanes.{zip2, sel_l, top, Each1, number_l, digits_l, fold_l}
use Rattle.std.proofs.lemmas.Grind.{common_steps}
use Rattle.std.proofs.lemmas.List.{map-append}
use Rattle.const_hex_arch.specs.{hex_value, IsDigit, AllDigits, AllNibbles, as_value, IsValueOf, Spells, bytes_of_nibbles, IsClear, AllClear, IsClampedValueOf, IsLimitOf}
use Rattle.const_hex_arch.proofs.lemmas.Standard.{every_below, every_pair, holds_below}
use Rattle.const_hex_arch.proofs.lemmas.Digits.{digits_append}
use Rattle.const_hex_arch.proofs.lemmas.Texts.{IsPair-of}
use Rattle.std.specs.Int.{bit_at}
use Rattle.std.proofs.lemmas.Nat.{le_or_l, le_or_r}
use Rattle.std.proofs.lemmas.Nat.Bits.{bit_at_or}
use Rattle.std.proofs.lemmas.Simd.{swz_l}
use mir.Val.{zeroes}

-- ---- a test whether two values are equal

-- whether two options are equal, as a test that can be computed
abbrev pub same_value : Option ℕ → Option ℕ → Bool
same_value None None = true
same_value (Some a) (Some b) = eqb a b
same_value _ _ = false

-- what this test means
pub same_value-true : (o p : Option ℕ) → T (same_value o p) → o ≡ p
same_value-true None None t = refl
same_value-true (Some a) (Some b) t = ap Some (eqb→eq a b t)
same_value-true _ _ t = absurd t

-- the same for a test that is made only if there is a value
pub same_if_some : (o p : Option ℕ) → T (is_none o || same_value o p) → IsSome o → o ≡ p
same_if_some (Some v) p t s = same_value-true (Some v) p t
same_if_some _ p t s = absurd (false≢true s)

-- ---- the operations on a vector

-- addition of lanes, modulo 256
abbrev pub add8 : ℕ → ℕ → ℕ
add8 a b = (a + b) % 2 ^ 8

-- subtraction of lanes, modulo 256
abbrev pub sub8 : ℕ → ℕ → ℕ
sub8 a b = (a + (2 ^ 8 - b)) % 2 ^ 8

-- a mask of 8 bits: all are set if a is below b
abbrev pub below_mask : ℕ → ℕ → ℕ
below_mask a b = cond (ltb a b) 255 0

-- the minimum in each lane
abbrev pub min_l : List ℕ → List ℕ → List ℕ
min_l xs ys = sel_l (map (top 7) (zip2 below_mask xs ys)) xs ys

-- saturating subtraction in each lane
abbrev pub satsub_l : List ℕ → List ℕ → List ℕ
satsub_l xs ys = zip2 sub8 (sel_l (map (top 7) (zip2 below_mask xs ys)) ys xs) ys

-- what `nibbles` computes of n lanes
abbrev pub nibbles_l : ℕ → List ℕ → List ℕ
nibbles_l n v =
    min_l (zip2 sub8 (satsub_l (zip2 add8 v (replicate n 198)) (replicate n 6)) (replicate n 240))
    (zip2 add8 (min_l (zip2 sub8 (zip2 bit_and v (replicate n 223)) (replicate n 65)) (replicate n 245))
    (replicate n 10))

-- what `unhex` computes of n lanes
abbrev pub unhex_l : ℕ → List ℕ → List ℕ
unhex_l n v =
    zip2 add8 (zip2 bit_and v (replicate n 15))
    (sel_l (map (top 7) (zip2 below_mask (replicate n 64) v)) (replicate n 9) (replicate n 0))

-- ---- one lane, by computing all 256 cases

-- `nibbles` computes the value of a byte, or no nibble if it is no digit
nibble_at : (b : ℕ) → b < 256 → as_value (get_or (nibbles_l 1 (b ∷ [])) 0 0) ≡ hex_value b
nibble_at b h =
    same_value-true _ _
    (every_below (λ b. same_value (as_value (get_or (nibbles_l 1 (b ∷ [])) 0 0)) (hex_value b)) 256 tt b h)

-- `unhex` computes the value of a digit
unhex_at : (b : ℕ) → b < 256 → IsDigit b → hex_value b ≡ Some (get_or (unhex_l 1 (b ∷ [])) 0 0)
unhex_at b h s =
    same_if_some _ _
    (every_below (λ b. is_none (hex_value b) || same_value (hex_value b) (Some (get_or (unhex_l 1 (b ∷ [])) 0 0))) 256
    tt b h) s

-- ---- all lanes

-- `nibbles` computes the values of all lanes
pub nibbles_are : (v : List ℕ) → Each1 (Fits w8) v → map as_value (nibbles_l (length v) v) ≡ map hex_value v
nibbles_are [] f = refl
nibbles_are (x ∷ xs) f = cc (nibble_at x f.0.fits, nibbles_are xs f.1)

-- `unhex` computes the values of lanes that are digits
pub unhex_are : (v : List ℕ) → Each1 (Fits w8) v → AllZip IsValueOf v (unhex_l (length v) v)
unhex_are [] f = tt
unhex_are (x ∷ xs) f = (unhex_at x f.0.fits, unhex_are xs f.1)

-- the value of a digit, as that of a lane
one_value : (b n : ℕ) → hex_value b ≡ Some n → as_value n ≡ hex_value b
one_value b n e = grind (arith, nat_tests)

-- the values of lanes, all of which are digits
pub values_of_digits : (v ns : List ℕ) → AllZip IsValueOf v ns → AllDigits v → map as_value ns ≡ map hex_value v
values_of_digits [] [] z d = refl
values_of_digits (b ∷ v) (n ∷ ns) z d =
    cc (one_value b n (z.0 (All-head IsDigit b v d)), values_of_digits v ns z.1 (All-tail IsDigit b v d))
values_of_digits _ _ z d = absurd z

-- the value of a digit is at most 15
one_small : (n x : ℕ) → as_value n ≡ hex_value x → IsDigit x → n ≤ 15
one_small n x e = rw (← e) (λ s. grind (arith, nat_tests))

-- the values of lanes, all of which are digits, are nibbles
pub small_values : (ns v : List ℕ) → map as_value ns ≡ map hex_value v → AllDigits v → AllNibbles ns
small_values [] v e d = tt
small_values (n ∷ ns) [] e d = absurd (cc)
small_values (n ∷ ns) (x ∷ v) e d =
    (one_small n x (cc) (All-head IsDigit x v d), small_values ns v (cc) (All-tail IsDigit x v d))

-- ---- two nibbles merged to a byte, by a multiplication of a 16-bit lane

-- the upper byte of the lane times 0x1001: the first nibble times 16, plus the second
abbrev pub merge : ℕ → ℕ
merge pair = pair * 4097 % 65536 / 256

-- one lane of two nibbles
merge_at : (h l : ℕ) → h ≤ 15 → l ≤ 15 → merge (h + 256 * l) ≡ 16 * h + l
merge_at h l p q =
    eqb→eq _ _ (every_pair (λ h l. eqb (merge (h + 256 * l)) (16 * h + l)) 16 16 tt h l (omega arith) (omega arith))

-- all lanes, of which each has two nibbles
pub merge_all : (k : ℕ) (ns : List ℕ) → length ns ≡ 2 * k → AllNibbles ns
    → map merge (digits_l 65536 k (number_l 256 ns)) ≡ bytes_of_nibbles ns
merge_all zero [] e a = refl
merge_all (suc k) (h ∷ l ∷ ns) e a =
    let x = number_l 256 ns in
    let low : (h + 256 * (l + 256 * x)) % 65536 ≡ h + 256 * l = omega arith in
    let high : (h + 256 * (l + 256 * x)) / 65536 ≡ x = omega arith in
    rw (low, high, merge_at h l a.0 a.1.0, merge_all k ns (omega arith) a.1.1)
merge_all _ _ e a = absurd (omega arith)

-- ---- the bytes that merged values make

-- a lane of at most 15 is the value of the byte
value_is : (n b : ℕ) → as_value n ≡ hex_value b → n ≤ 15 → hex_value b ≡ Some n
value_is n b e h = sym e ∙ rw (le-leb n 15 h)

-- a text decodes to the bytes that its values make
Spells-bytes_of_nibbles : (k : ℕ) (ns u : List ℕ) → length ns ≡ 2 * k → map as_value ns ≡ map hex_value u → AllNibbles ns
    → Spells u (bytes_of_nibbles ns)
Spells-bytes_of_nibbles zero [] [] l e a = tt
Spells-bytes_of_nibbles (suc k) (h ∷ m ∷ ns) (x ∷ y ∷ u) l e a =
    let pair = IsPair-of x y h m (16 * h + m) (value_is h x (cc) a.0) (value_is m y (cc) a.1.0) refl in
    (pair, Spells-bytes_of_nibbles k ns u (omega arith) (cc) a.1.1)
Spells-bytes_of_nibbles _ _ _ l e a = absurd (omega (arith, ap length e))

-- the values a and b of the digits of two vectors t and u of n lanes, merged into r
pub merge_spells : (n : ℕ) (t u a b : List ℕ) → length a ≡ n → length b ≡ n → AllZip IsValueOf t a
    → AllZip IsValueOf u b
    → (r : List ℕ) → (AllNibbles (a ++ b) → r ≡ bytes_of_nibbles (a ++ b)) → AllDigits (t ++ u) → Spells (t ++ u) r
merge_spells n t u a b p q first second r is d =
    let parts = (digits_append t u).0 d in
    let high = values_of_digits t a first parts.0 in
    let low = values_of_digits u b second parts.1 in
    let values : map as_value (a ++ b) ≡ map hex_value (t ++ u) =
    rw (map-append as_value a b, map-append hex_value t u, high, low) in
    let small = small_values (a ++ b) (t ++ u) values d in
    rw (is small)
    (Spells-bytes_of_nibbles n (a ++ b) (t ++ u) (omega (arith, length-append a b)) values small)

-- ---- a slice of two vectors

-- a slice of 2 * n bytes is its first n and then the next n
pub in_two : (n : ℕ) (u : List ℕ) → length u ≡ 2 * n → take n u ++ take n (drop n u) ≡ u
in_two n u e = grind (arith, common_steps)

-- how many error bits of a lane are set
abbrev error_count : ℕ → ℕ
error_count z = bit_at z 7 + bit_at z 6 + bit_at z 4 + bit_at z 3

-- ---- the limits of 16 lanes, by a table look-up of the low nibbles

-- the byte minus 48, in 8 bits: 208 is 256 - 48
abbrev minus_48 : ℕ → ℕ
minus_48 b = (b + 208) % 256

-- a comparison with 0, by `eqb`, as an equivalence
same_test : (a : ℕ) (b : Bool) → eqb a 0 ≡ b → (a ≡ 0) ↔ IsTrue b
same_test a b e = grind (arith, nat_tests)

module _ (table : List ℕ) where
  -- entry j of block q of the table, or 0 if j is 128 or more
  abbrev read : ℕ → ℕ → ℕ
  read q j = cond (zeroes 16 w8 j) zero (get_or table (16 * q + j) zero)

  -- the limit of a byte: the entry of its low nibble, or 0 if the byte is 128 or more
  abbrev limit : ℕ → ℕ
  limit b = read 0 (bit_and b 143)

  -- the byte minus 48, clamped to its limit
  abbrev value_of : ℕ → ℕ
  value_of b = cond (ltb (minus_48 b) (limit b)) (minus_48 b) (limit b)

  -- the byte minus 48, minus that value
  abbrev error_bits_of : ℕ → ℕ
  error_bits_of b = (minus_48 b + (256 - value_of b)) % 256

  -- the value of a digit is right
  abbrev is_right : ℕ → Bool
  is_right b = is_none (hex_value b) || same_value (hex_value b) (Some (value_of b))

  -- whether no error bit is set
  abbrev is_clear : ℕ → Bool
  is_clear b = eqb (error_count (error_bits_of b)) 0

  -- t: of the 256 bytes, only the digits have no error bit; u: the value of each digit is right
  module _ (t : agree_below is_clear (λ b. is_some (hex_value b)) 256 ≡ true) (u : T (holds_below is_right 256)) where
    -- the limit of a byte
    limit_at : (b : ℕ) → b < 256 → IsLimitOf b (limit b)
    limit_at b h = (
      same_if_some _ _ (every_below is_right 256 u b h),
      same_test _ _ (agree_below_at is_clear (λ b. is_some (hex_value b)) 256 b t h),
    )

    -- the same for the lanes from index i on
    limits_all : (i : ℕ) (v : List ℕ) → i + length v ≤ 16 → Each1 (Fits w8) v
        → AllZip IsLimitOf v (swz_l w8 16 table i (zip2 bit_and v (replicate (length v) 143)))
    limits_all i [] h f = tt
    limits_all i (x ∷ xs) h f =
        let first : i / 16 ≡ 0 = omega arith in
        (rw first (limit_at x f.0.fits), limits_all (suc i) xs (omega arith) f.1)

    -- the shuffle looks up the limit of each lane
    pub limits_are : (v : List ℕ) → (length v ≡ 16) × Each1 (Fits w8) v
        → AllZip IsLimitOf v (swz_l w8 16 table 0 (zip2 bit_and v (replicate 16 143)))
    limits_are v f =
        subst (λ n. AllZip IsLimitOf v (swz_l w8 16 table 0 (zip2 bit_and v (replicate n 143)))) f.0
        (limits_all 0 v (omega (arith, f.0)) f.1)

-- ---- lanes clamped to their limits, and the error bits

-- the lesser of two numbers, as `min_l` computes it
within_is : (x y : ℕ) → cond (ltb x y) x y ≡ get_or (min_l (x ∷ []) (y ∷ [])) 0 0
within_is x y = grind (arith, nat_tests)

-- all lanes minus 48
abbrev minus_48_l : ℕ → List ℕ → List ℕ
minus_48_l n v = zip2 sub8 v (replicate n 48)

-- `min(lane - 48, limit)` is the clamped value of each lane
pub clamped_values_are : (v t : List ℕ) → AllZip IsLimitOf v t → AllZip IsClampedValueOf v (min_l (minus_48_l (length v) v) t)
clamped_values_are [] [] z = tt
clamped_values_are (x ∷ v) (y ∷ t) z = (subst (IsClampedValueOf x) (within_is (minus_48 x) y) z.0, clamped_values_are v t z.1)
clamped_values_are _ _ z = absurd z

-- the clamped values of digits are their values
pub values_of_clamped : (v ns : List ℕ) → AllZip IsClampedValueOf v ns → AllZip IsValueOf v ns
values_of_clamped [] [] z = tt
values_of_clamped (x ∷ v) (n ∷ ns) z = (z.0.0, values_of_clamped v ns z.1)
values_of_clamped _ _ z = absurd z

-- no lane has an error bit if and only if all lanes are digits
pub clear_are_digits : (v ns : List ℕ) → AllZip IsClampedValueOf v ns
    → AllClear (zip2 sub8 (minus_48_l (length v) v) ns) ↔ AllDigits v
clear_are_digits [] [] z = (λ _. All-nil IsDigit, λ _. tt)
clear_are_digits (b ∷ v) (n ∷ ns) z =
    grind (arith, All-head IsDigit b v, All-tail IsDigit b v, All-cons IsDigit b v, clear_are_digits v ns z.1)
clear_are_digits _ _ z = absurd z

-- the error bits of two lanes, joined by OR
both_clear : (y z : ℕ) → IsClear (bit_or y z) ↔ (IsClear y × IsClear z)
both_clear y z = let bits = bit_at_or y z in omega (arith, bits 7, bits 6, bits 4, bits 3)

-- no lane of the OR has an error bit if and only if no lane of both vectors has one
all_clear : (ys zs : List ℕ) → length ys ≡ length zs
    → AllClear (zip2 bit_or ys zs) ↔ (AllClear ys × AllClear zs)
all_clear [] [] e = (λ h. (tt, tt), λ h. tt)
all_clear (y ∷ ys) (z ∷ zs) e = grind (arith, both_clear y z, all_clear ys zs (omega arith))
all_clear _ _ e = absurd (omega arith)

-- the error bits of two texts joined, for the text of both
pub joint_test : (ys zs t u : List ℕ) → length ys ≡ length zs → AllClear ys ↔ AllDigits t
    → AllClear zs ↔ AllDigits u
    → AllClear (zip2 bit_or ys zs) ↔ AllDigits (t ++ u)
joint_test ys zs t u e first second = grind (arith, all_clear ys zs e, digits_append t u)

-- ---- one test for all lanes, by OR of numbers of 64 bits

-- the error bits of a lane: those of the mask 0xD8
abbrev masked : ℕ → ℕ
masked x = bit_and x 216

-- none of them is set if and only if they are 0
at_lane : (x : ℕ) → Fits w8 x → (masked x < 256) × ((masked x ≡ 0) ↔ IsClear x)
at_lane x f = (
  ltb→lt _ _ (every_below (λ x. ltb (masked x) 256) 256 tt x f.fits),
  grind (arith, nat_tests, agree_below_at (λ x. eqb (masked x) 0) (λ x. eqb (error_count x) 0) 256 x refl f.fits),
)

-- the error bits of all lanes
abbrev all_masked : List ℕ → List ℕ
all_masked xs = zip2 bit_and xs (replicate (length xs) 216)

-- eight lanes are one number of 64 bits; a is the OR of the numbers before
clear_numbers : (a n : ℕ) (xs : List ℕ) → length xs ≡ 8 * n → Each1 (Fits w8) xs
    → (fold_l bit_or a (digits_l 18446744073709551616 n (number_l 256 (all_masked xs))) ≡ 0) ↔ ((a ≡ 0) × AllClear xs)
clear_numbers a zero [] e f = (λ h. (h, tt), λ h. h.0)
clear_numbers a (suc n) (x0 ∷ x1 ∷ x2 ∷ x3 ∷ x4 ∷ x5 ∷ x6 ∷ x7 ∷ xs) e f =
    let rest = number_l 256 (all_masked xs) in
    let at0 = at_lane x0 f.0 in
    let at1 = at_lane x1 f.1.0 in
    let at2 = at_lane x2 f.1.1.0 in
    let at3 = at_lane x3 f.1.1.1.0 in
    let at4 = at_lane x4 f.1.1.1.1.0 in
    let at5 = at_lane x5 f.1.1.1.1.1.0 in
    let at6 = at_lane x6 f.1.1.1.1.1.1.0 in
    let at7 = at_lane x7 f.1.1.1.1.1.1.1.0 in
    let number = number_l 256 (all_masked (x0 ∷ x1 ∷ x2 ∷ x3 ∷ x4 ∷ x5 ∷ x6 ∷ x7 ∷ xs)) in
    let above : number / 18446744073709551616 ≡ rest = omega arith in
    let here : (number % 18446744073709551616 ≡ 0) ↔ ((masked x0 + masked x1 + masked x2 + masked x3 + masked x4 + masked x5 + masked x6 + masked x7) ≡ 0) = omega arith in
    let more = clear_numbers (bit_or a (number % 18446744073709551616)) n xs (omega arith) f.1.1.1.1.1.1.1.1 in
    rw above (grind (arith, here, at0, at1, at2, at3, at4, at5, at6, at7, more, le_or_l, le_or_r))
clear_numbers a _ _ e f = absurd (omega arith)

-- no lane has an error bit if and only if all lanes AND 216, joined by OR in numbers of 64 bits, are 0
pub are_clear : (n : ℕ) (xs : List ℕ) → (length xs ≡ 8 * n) × Each1 (Fits w8) xs
    → IsTrue (eqb (fold_l bit_or 0 (digits_l 18446744073709551616 n (number_l 256 (zip2 bit_and xs (replicate (8 * n) 216))))) 0)
    ↔ AllClear xs
are_clear n xs f = rw (← f.0) (grind (arith, nat_tests, clear_numbers 0 n xs f.0 f.1))

-- a high and a low nibble, joined by a shift and OR
pub joined : (h l : ℕ) → h < 16 → l < 16 → bit_or (h * 16 % 256) l ≡ 16 * h + l
joined h l p q =
    eqb→eq _ _ (every_pair (λ h l. eqb (bit_or (h * 16 % 256) l) (16 * h + l)) 16 16 tt h l p q)
