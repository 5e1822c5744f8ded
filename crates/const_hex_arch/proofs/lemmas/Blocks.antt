-- Inputs that are processed block by block (`long.rt`, `plain.rt`), and short inputs that are processed as their
-- first bytes and their last bytes (`short.rt`).
--
-- `u` is the input, `old` and `new` are the output before and after, and `r` is what one block writes: `put_mid i n
-- new r` is `new` with r in the place of its n bytes from i on. `i` bytes are done, `n` are those of a block, `m` is
-- the length of its text, and `d` is the fact that the first `i` are done. `up` asks for uppercase. `step` and
-- `space` are those of an output, as `Writes` has them. `Spells u bs` says that the digits u decode to bs, and
-- `Partial old u new` what an output holds after u was rejected. In a proof, the letters that its statement does not
-- name are the hypotheses, in order.
use Rattle.std.proofs.Common.{◌^◌, ◌≡◌, ℕ, ◌+◌, ◌-◌, ◌*◌, ◌<◌, ◌≤◌, ◌↔◌, List, [], ◌∷◌, ◌++◌, length, take, drop, slice_index, slice_index_or, refl, ap, ◌∙◌, arith, take-add, take-append-drop, drop-drop, length-take, length-append, Option, IsAscii, Bool, false, IsTrue, sym, ◌/◌, ◌%◌, get_or, append-nil, length-drop, replicate, zero, suc}
use Rattle.std.proofs.lemmas.Bool.{false≢true}
use Rattle.std.proofs.lemmas.Grind.{common_steps}
use Rattle.std.proofs.lemmas.List.{take_at, drop_at, take_rest, take_all, take-replicate, drop-replicate}
use Rattle.std.proofs.lemmas.List.Elements.{All-take, All-drop}
use Rattle.std.proofs.lemmas.Str.{IsAscii-take}
use Rattle.std.proofs.lemmas.Slice.{take-put_mid, drop-put_mid}
use borrow.Rule.Slice.PartMut.{put_mid}
use Rattle.const_hex_arch.specs.{IsDigit, hex_text, AllDigits, Spells, Partial, HasSpace, remaining_space, Writes, hex_digit}
use Rattle.const_hex_arch.proofs.lemmas.LaneValues.{add8}
use Rattle.const_hex_arch.proofs.lemmas.Runs.{Writes-append, Writes_space}
use Rattle.const_hex_arch.proofs.lemmas.Digits.{digits_append, digits_parts}
use Rattle.const_hex_arch.proofs.lemmas.FirstInvalid.{none_decoded, Partial-after}
use Rattle.const_hex_arch.proofs.lemmas.Texts.{Spells-append, Spells-parts, Spells-digits, hex_text-append, length-hex_text, hex_text-nil, hex_text-one}
use lib.Lanes.{zip2}

-- a list from its first n elements and the others
pub parts : (n : ℕ) {u front back : List ℕ} → front ≡ take n u → back ≡ drop n u → front ++ back ≡ u
parts n {u} f b = rw (f, b) (take-append-drop n u)

-- ---- texts of digits

-- the first bytes are digits, and then n more
pub digits_block : (u : List ℕ) (i n end : ℕ) → end ≡ i + n → AllDigits (take i u) → AllDigits (take n (drop i u))
    → AllDigits (take end u)
digits_block u i n end q d e = rw (q, take-add i n u) ((digits_append (take i u) (take n (drop i u))).1 (d, e))

-- the first i bytes are digits, and so are all bytes, from those after e, which is not past i
pub digits_last : (u : List ℕ) (i e : ℕ) → e ≤ i → AllDigits (take i u)
    → AllDigits (take (length u - e) (drop e u)) ↔ AllDigits u
digits_last u i e h d = (
  λ last.
      let past : drop (i - e) (drop e u) ≡ drop i u = grind (arith, common_steps) in
      (digits_parts i u).1 (d, rw past at (All-drop IsDigit (i - e) (drop e u) (rw take_rest at last))),
  λ whole. rw take_rest (All-drop IsDigit e u whole),
)

-- ---- the text of bytes is written but for the rest of them: with it, all is, and there is space for it
pub record IsWritten {S : Type 0} (step : S → List ℕ → S → Type 0) (space : S → Option ℕ) (up : Bool) (bytes : List ℕ)
    (old new : S) (rest : List ℕ) : Type 0 where
  -- a write of the text of the rest completes the text
  pub onward : (t : S) → Writes step new (hex_text up rest) t → Writes step old (hex_text up bytes) t
  pub has_space : HasSpace (space new) (2 * length rest)
  pub ascii : IsAscii (hex_text up rest)

-- the parts of ASCII text
pub first_ascii : (xs ys : List ℕ) → IsAscii (xs ++ ys) → IsAscii xs
first_ascii xs ys h = rw take_at at (IsAscii-take (xs ++ ys) (length xs) h)

-- the same for the second part
later_ascii : (xs ys : List ℕ) → IsAscii (xs ++ ys) → IsAscii ys
later_ascii xs ys h k =
    let at : slice_index (xs ++ ys) (length xs + k) < 128 = h (length xs + k) in grind (arith, common_steps, at)

-- the text of the first n bytes of the rest is written
pub text_written : {S : Type 0} {step : S → List ℕ → S → Type 0} {space : S → Option ℕ} {up : Bool} {bytes u : List ℕ}
    {old mid new : S} {front back : List ℕ} (n : ℕ)
    → ((s : S) (p : List ℕ) (t : S) → step s p t → space t ≡ remaining_space (space s) (length p))
    → IsWritten step space up bytes old mid u → front ≡ take n u → back ≡ drop n u → Writes step mid (hex_text up front) new
    → IsWritten step space up bytes old new back
text_written {S} {step} {space} {up} {bytes} {u} {old} {mid} {new} {front} {back} n shrinks d f b w =
    let whole = parts n f b in
    let sum : 2 * length u ≡ length (hex_text up front) + 2 * length back =
    omega (arith, length-hex_text up front, length-append front back, ap length whole) in record {
      onward = λ t v. d.onward t (rw (← hex_text-append, whole) at (Writes-append step mid _ new _ t w v));
      has_space = Writes_space step space shrinks mid _ new _ w (rw sum at d.has_space);
      ascii = later_ascii (hex_text up front) (hex_text up back) (rw (← whole, hex_text-append) at d.ascii);
    }

-- a list of two bytes
pub two_bytes : (u : List ℕ) → length u ≡ 2 → u ≡ slice_index_or u 0 0 ∷ slice_index_or u 1 0 ∷ []
two_bytes [] h = cc h
two_bytes (a ∷ []) h = absurd (omega (arith, h))
two_bytes (a ∷ b ∷ []) h = refl
two_bytes (a ∷ b ∷ c ∷ u) h = absurd (omega (arith, h))

-- ---- the first bytes of an output hold what the first pairs of a text decode to, and the rest of the
-- output is unchanged
pub record IsDecoded (u old new : List ℕ) (i : ℕ) : Type 0 where
  pub within : i ≤ length new
  pub same_length : length new ≡ length old
  pub front : Spells (take (2 * i) u) (take i new)
  pub rest : drop i new ≡ drop i old

-- n bytes more, of m bytes of text
pub decoded_block : {u old new : List ℕ} {i end : ℕ} (r : List ℕ) (n m : ℕ) → IsDecoded u old new i
    → (end ≡ i + n) × (end ≤ length new) × (m ≡ 2 * n) × (length r ≡ n)
    → Spells (take m (drop (2 * i) u)) r → IsDecoded u old (put_mid i n new r) end
decoded_block {u} {old} {new} {i} {end} r n m d sizes s =
    let q : 2 * end ≡ 2 * i + m = omega arith in
    let bytes : take end (put_mid i n new r) ≡ take i new ++ r = take-put_mid i n new r end (omega arith) d.within in
    let past : drop end (put_mid i n new r) ≡ drop end new = drop-put_mid i n new r end (omega arith) d.within (omega arith) in
    let length_kept : length (put_mid i n new r) ≡ length new = grind (arith, common_steps) in record {
      within = omega arith;
      same_length = length_kept ∙ d.same_length;
      front = rw (q, take-add (2 * i) m u, bytes) (Spells-append _ _ _ _ d.front s);
      rest = rw (past, sizes.0, ← drop-drop n i new, d.rest, drop-drop n i old);
    }

-- fewer bytes are decoded than there are
pub decoded_less : {u old new : List ℕ} {i : ℕ} (e : ℕ) → IsDecoded u old new i → e ≤ i → IsDecoded u new new e
decoded_less {u} {old} {new} {i} e d h = record {
  within = omega arith;
  same_length = refl;
  front =
      let text : take (2 * e) (take (2 * i) u) ≡ take (2 * e) u = grind (arith, common_steps) in
      let bytes : take e (take i new) ≡ take e new = grind (arith, common_steps) in
      rw (text, bytes) at (Spells-parts (take (2 * i) u) (take i new) e (2 * e) refl d.front).0;
  rest = refl;
}

-- a block that changed nothing
pub unchanged_block : (new r : List ℕ) (i n : ℕ) → r ≡ take n (drop i new) → put_mid i n new r ≡ new
unchanged_block new r i n e = rw e (ap (λ x. take i new ++ x) (take-append-drop n (drop i new)) ∙ take-append-drop i new)

-- a block anywhere in the text that is rejected, and changed nothing
pub rejected_block : {u old new r : List ℕ} {i : ℕ} {b : Bool} (j n m k : ℕ) → IsDecoded u old new i
    → length u ≡ 2 * length old → IsTrue b ↔ AllDigits (take m (drop k u)) → r ≡ take n (drop j new) → b ≡ false
    → Partial old u (put_mid j n new r)
rejected_block {u} {old} {new} {r} {i} j n m k d size test e is_false =
    let rest = none_decoded (drop i new) (drop (2 * i) u) (λ a.
    let all = (digits_parts (2 * i) u).1 (Spells-digits _ _ d.front, a) in
    false≢true (sym is_false ∙ test.1 (All-take IsDigit m (drop k u) (All-drop IsDigit k u all)))) in
    rw (unchanged_block new r j n e)
    (Partial-after old u new i (2 * i) (omega arith) (omega arith) d.same_length d.within d.front (rw (← d.rest) rest))

-- ---- the remainder, which another call decodes
module _ {u old new : List ℕ} {i : ℕ} (r : List ℕ) (d : IsDecoded u old new i) (size : length u ≡ 2 * length old)
    (long : length r ≡ length new - i) where
  -- the output: the bytes that were decoded before, and then the remainder
  whole : put_mid i (length new - i) new r ≡ take i new ++ r
  whole = grind (arith, common_steps, append-nil)

  -- if the remainder is decoded, the whole text is
  pub spells_rest : Spells (take (length u - 2 * i) (drop (2 * i) u)) r → Spells u (put_mid i (length new - i) new r)
  spells_rest s = rw whole (rw take-append-drop at (Spells-append _ _ _ _ d.front (rw take_rest at s)))

  -- if the remainder is rejected, the whole text is
  pub rejected_rest : Partial (take (length new - i) (drop i new)) (take (length u - 2 * i) (drop (2 * i) u)) r
      → Partial old u (put_mid i (length new - i) new r)
  rejected_rest p =
      let front : length (take i new) ≡ i = omega (arith, length-take i new) in
      let all : length (take i new ++ r) ≡ length old = omega (arith, length-append (take i new) r) in
      let remainder : Partial (drop i old) (drop (2 * i) u) r = rw (take_rest new i, take_rest u (2 * i), d.rest) at p in
      rw whole (Partial-after old u (take i new ++ r) i (2 * i) refl (omega arith) all (omega arith)
      (rw (take_at (take i new) r i front) d.front) (rw (drop_at (take i new) r i front) remainder))

-- the text of the first k bytes, and of the others
pub hex_text-parts : (up : Bool) (k : ℕ) (bs : List ℕ) → k ≤ length bs
    → (take (2 * k) (hex_text up bs) ≡ hex_text up (take k bs))
    × (drop (2 * k) (hex_text up bs) ≡ hex_text up (drop k bs))
hex_text-parts up k bs h =
    let long : length (hex_text up (take k bs)) ≡ 2 * k =
    omega (arith, length-hex_text up (take k bs), length-take k bs) in
    let whole : hex_text up bs ≡ hex_text up (take k bs) ++ hex_text up (drop k bs) =
    rw (← hex_text-append, take-append-drop) in
    rw whole (take_at _ _ _ long, drop_at _ _ _ long)

-- ---- texts of digits, as the first n and the last n bytes

-- they may overlap
pub digits_first_and_last : (n : ℕ) (u : List ℕ) → n ≤ length u → length u ≤ 2 * n
    → AllDigits (take n u ++ drop (length u - n) u) ↔ AllDigits u
digits_first_and_last n u h k =
    let start = length u - n in
    let pair = digits_append (take n u) (drop start u) in (
      λ d.
          let both = pair.0 d in
          (digits_last u n start (omega arith) both.0).0 (rw (take_rest u start) both.1),
      λ d. pair.1 (All-take IsDigit n u d, All-drop IsDigit start u d),
    )

-- the same for a block that has them, and other digits after them
pub digits_first_and_last_padded : (n : ℕ) (u block : List ℕ) → n ≤ length u → length u ≤ 2 * n
    → take (2 * n) block ≡ take n u ++ drop (length u - n) u
    → AllDigits (drop (2 * n) block) → AllDigits block ↔ AllDigits u
digits_first_and_last_padded n u block h k e rest =
    let all = digits_parts (2 * n) block in
    let pair = digits_first_and_last n u h k in (λ d. pair.0 (rw e at (all.0 d).0), λ d. all.1 (rw e (pair.1 d), rest))

-- the bytes, padded with digits up to the number of lanes
padded_lanes : (front : List ℕ) (m : ℕ) → ((k : ℕ) → get_or front k 0 < 256)
    → zip2 add8 (front ++ replicate m 0) (replicate (length front) 0 ++ replicate m 48) ≡ front ++ replicate m 48
padded_lanes [] zero h = refl
padded_lanes [] (suc m) h = cc (padded_lanes [] m h)
padded_lanes (x ∷ front) m h =
    let small : x < 256 = h 0 in
    let same : (x + 0) % 2 ^ 8 ≡ x = omega arith in
    cc (same, padded_lanes front m (λ k. h (suc k)))

-- the same for a short input whose first and last bytes are loaded into a vector of N lanes
pub padded_first_and_last : (n N : ℕ) (front zeros : List ℕ) → length front ≡ n → n ≤ N → zeros ≡ take n (replicate N 0)
    → ((k : ℕ) → get_or front k 0 < 256)
    → zip2 add8 (front ++ drop n (replicate N 0)) (zeros ++ drop n (replicate N 48)) ≡ front ++ replicate (N - n) 48
padded_first_and_last n N front zeros long h e small =
    rw (e, take-replicate, drop-replicate, drop-replicate, ← long) (padded_lanes front (N - length front) small)

-- the first n and the last n bytes are bytes
pub first_and_last_are_bytes : (n : ℕ) (u : List ℕ) → n ≤ length u → ((k : ℕ) → get_or u k 0 < 256) → (k : ℕ)
    → get_or (take n u ++ drop (length u - n) u) k 0 < 256
first_and_last_are_bytes n u l h k = grind (arith, common_steps, h k, h (length u - n + (k - n)))

-- what the first d and the last d digits decode to, put into place
pub spells_first_and_last : (h d n : ℕ) (u block bytes ends : List ℕ) → d ≡ 2 * h → length u ≡ 2 * n → h ≤ n → n ≤ 2 * h
    → take (2 * d) block ≡ take d u ++ drop (length u - d) u → Spells block bytes → ends ≡ take d bytes → length ends ≡ d
    → Spells u (take (n - h) (take h ends) ++ drop (length ends - h) ends)
spells_first_and_last h d n u block bytes ends two long least most e s f k =
    let start = length u - d in
    let both = take d u ++ drop start u in
    let front : take start both ≡ take start u = grind (arith, common_steps) in
    let back : drop d both ≡ drop start u = grind (arith, common_steps) in
    let first : take (n - h) ends ≡ take (n - h) (take h ends) = grind (arith, common_steps) in
    let half : length ends - h ≡ h = omega arith in
    let spelled : Spells both ends = rw (e, ← f) at (Spells-parts block bytes d (2 * d) refl s).0 in
    rw half
    (rw take-append-drop at (Spells-append _ _ _ _
    (rw (front, first) at (Spells-parts both ends (n - h) start (omega arith) spelled).0)
    (rw back at (Spells-parts both ends h d two spelled).1)))

-- ---- the first digits of an output are the text of the first bytes
pub record IsFilled (up : Bool) (u new : List ℕ) (i : ℕ) : Type 0 where
  pub within : i ≤ length u
  pub size : length new ≡ 2 * length u
  pub front : take (2 * i) new ≡ hex_text up (take i u)

-- before the first block
pub none_filled : {up : Bool} {u new : List ℕ} → length new ≡ 2 * length u → IsFilled up u new 0
none_filled {up} {u} {new} e = record { within = omega arith; size = e; front = sym (hex_text-nil up) }

-- the text of n bytes more
pub filled_block : {up : Bool} {u new : List ℕ} {i end : ℕ} (r : List ℕ) (n m : ℕ) → IsFilled up u new i → end ≡ i + n
    → end ≤ length u → m ≡ 2 * n
    → r ≡ hex_text up (take n (drop i u)) → IsFilled up u (put_mid (2 * i) m new r) end
filled_block {up} {u} {new} {i} {end} r n m d e h f s =
    grind (arith, common_steps, length-hex_text, length-take, length-drop, take-put_mid, put_mid, take-add, hex_text-append)

-- the digits of one byte more
pub filled_one : {up : Bool} {u new : List ℕ} {i end : ℕ} (r : List ℕ) (m : ℕ) → IsFilled up u new i → i < length u
    → end ≡ i + 1 → m ≡ 2 → r ≡ hex_digit up (get_or u i 0 / 16) ∷ hex_digit up (get_or u i 0 % 16) ∷ []
    → IsFilled up u (put_mid (2 * i) m new r) end
filled_one {up} {u} {new} {i} r m d h e f s =
    filled_block r 1 m d e (omega arith) f (s ∙ sym (hex_text-one up u i h))

-- the lemmas that the proof search of `Plain::fill` may use
pub ruleset fills = (none_filled, filled_one, hex_text-nil)

-- fewer bytes are written than there are
pub filled_less : {up : Bool} {u new : List ℕ} {i : ℕ} (e : ℕ) → IsFilled up u new i → e ≤ i → IsFilled up u new e
filled_less {up} {u} {new} {i} e d h = record {
  within = omega arith;
  size = d.size;
  front =
      let digits : take (2 * e) (take (2 * i) new) ≡ take (2 * e) new = grind (arith, common_steps) in
      let bytes : take e (take i u) ≡ take e u = grind (arith, common_steps) in
      let text = (hex_text-parts up e (take i u) (omega (arith, length-take i u))).0 in
      rw (← digits, d.front, text, bytes);
}

-- all of the text
pub filled_whole : {up : Bool} {u new : List ℕ} {i : ℕ} → IsFilled up u new i → length u ≤ i → new ≡ hex_text up u
filled_whole {up} {u} {new} {i} d h = rw (← take_all (2 * i) new (omega arith), d.front, take_all i u h)

-- the text of the last bytes is written, and then that of the first h
pub filled_first_and_last : (up : Bool) (h start m : ℕ) (u old first last : List ℕ) → length old ≡ 2 * length u → h ≤ length u
    → start ≤ h → m ≡ length old - 2 * start → last ≡ hex_text up (drop start u) → first ≡ hex_text up (take h u)
    → put_mid 0 (2 * h) (put_mid (2 * start) m old last) first ≡ hex_text up u
filled_first_and_last up h start m u old first last size least most e l f =
    let begin : length (take (2 * start) old) ≡ 2 * start = omega (arith, length-take (2 * start) old) in
    let text = (hex_text-parts up (h - start) (drop start u) (omega (arith, length-drop start u))).1 in
    let rest : drop (h - start) (drop start u) ≡ drop h u = grind (arith, common_steps) in
    let last_long : length last ≡ 2 * length u - 2 * start = omega (arith, ap length l, length-hex_text up (drop start u), length-drop start u) in
    let mid : put_mid (2 * start) m old last ≡ take (2 * start) old ++ last = grind (arith, common_steps, append-nil, last_long) in
    let sum : 2 * start + 2 * (h - start) ≡ 2 * h = omega arith in
    let remainder : drop (2 * h) (put_mid (2 * start) m old last) ≡ drop (2 * (h - start)) last =
    rw (mid, ← sum, ← drop-drop (2 * (h - start)) (2 * start) (take (2 * start) old ++ last), drop_at _ _ _ begin) refl in
    rw (remainder, f, l, text, rest) (rw (← hex_text-append, take-append-drop) refl)

-- the rest of the text
pub filled_rest : {up : Bool} {u new : List ℕ} {i : ℕ} (r : List ℕ) → IsFilled up u new i
    → r ≡ hex_text up (take (length u - i) (drop i u))
    → put_mid (2 * i) (length new - 2 * i) new r ≡ hex_text up u
filled_rest {up} {u} {new} {i} r d s =
    filled_whole
    (filled_block {end = length u} r (length u - i) (length new - 2 * i) d (omega arith) (omega arith) (omega arith) s)
    (omega arith)
