-- A text that arrives in chunks: the state of a `Decoder` after one more chunk, with or without an error.
--
-- `d` is the decoder before the chunk and `e` after it, `t` is the text that it has read, `bs` are the bytes that it
-- has written, and `r` is the fact that it has (`HasRead`). `old` and `new` are the output before and after, `u` is a
-- text of digits, and `v` the text after it. `Spells u bs` says that the digits u decode to bs, and `Partial old u
-- new` what an output holds after u was rejected. In a proof, the letters that its statement does not name are the
-- hypotheses, in order.
use Rattle.std.proofs.Common.{◌≡◌, ◌≤◌, ◌*◌, ◌/◌, ℕ, List, ◌++◌, length, take, drop, refl, arith, ◌+◌, ◌-◌, ◌%◌, ◌≢◌, [], ◌∷◌, slice_index, None, Ok, sym, ap, ◌∙◌, length-append, length-drop}
use Rattle.std.proofs.lemmas.Grind.{common_steps}
use Rattle.std.proofs.lemmas.List.{take-append-drop, take-append-le, drop-append-le, append_assoc, append-nil, get_or_append_left, get_or-append-add, length-take, take_all, take_at, drop_all, drop_at}
use Rattle.std.proofs.lemmas.List.Elements.{All-drop, All-take}
use Rattle.const_hex.specs.Prelude.{Partial, IsOdd, DecodesTo, body_of, HasRead, NamesInvalidSaturated, saturated, error_of, position_of, pending_digit, body-parity, Decoder, IsDigit, AllDigits, FirstInvalidAt, Spells}
use Rattle.const_hex_arch.proofs.lemmas.Digits.{digits_append}
use Rattle.const_hex_arch.proofs.lemmas.FirstInvalid.{FirstInvalidAt-after, Spells-some, Partial-after, none_decoded}
use Rattle.const_hex_arch.proofs.lemmas.Texts.{Spells-append, Spells-digits, Spells-length}

-- ---- what an output holds after an error, if only its front was to be filled

-- if `Partial` holds for the front that the pairs of the text fill exactly, it holds for the whole output
pub partial_pairs : (old u new : List ℕ) (n : ℕ) → n ≤ length old → length u / 2 ≡ n → Partial (take n old) u new
    → Partial old u (new ++ drop n old)
partial_pairs old u new n within sized p =
    let front = take n old in
    let other = drop n old in
    let inside = p.first_invalid.within in
    let in_new : p.done ≤ length new = grind (arith, common_steps) in
    let in_old : p.done ≤ length front = grind (arith, common_steps) in
    record {
      invalid_index = p.invalid_index;
      done = p.done;
      first_invalid = p.first_invalid;
      not_past = p.not_past;
      same_length = grind (arith, common_steps);
      front = rw (take-append-le p.done new other in_new) p.front;
      rest = rw (drop-append-le p.done new other in_new, p.rest, ← drop-append-le p.done front other in_old)
          (rw (take-append-drop n old) refl);
    }

-- ---- pairs of digits, and what follows them

-- a text with an invalid character has it also if more text follows
pub Partial-longer : (old u new v : List ℕ) → Partial old u new → Partial old (u ++ v) new
Partial-longer old u new v p =
    let inside = p.first_invalid.within in
    let early : 2 * p.done ≤ length u = omega (arith, p.not_past) in
    record {
      invalid_index = p.invalid_index;
      done = p.done;
      first_invalid = record {
        within = omega (arith, length-append u v);
        before = rw (take-append-le p.invalid_index u v (omega arith)) p.first_invalid.before;
        here = rw (get_or_append_left u v 0 p.invalid_index inside) p.first_invalid.here;
      };
      not_past = p.not_past;
      same_length = p.same_length;
      front = rw (take-append-le (2 * p.done) u v early) p.front;
      rest = p.rest;
    }

-- one of the pairs is invalid
pub pairs_rejected : (old u new : List ℕ) (m : ℕ) → Partial old (take m u) new → Partial old u new
pairs_rejected old u new m p = rw (take-append-drop m u) at (Partial-longer old (take m u) new (drop m u) p)

-- the pairs are decoded, and what follows them is invalid
pub rest_rejected : (u v old bs new : List ℕ) (k : ℕ) → length bs ≡ k → Spells u bs → k ≤ length old
    → Partial (drop k old) v new → Partial old (u ++ v) (bs ++ new)
rest_rejected u v old bs new k e s fits p =
    let same = p.same_length in
    let size : length (bs ++ new) ≡ length old = omega (arith, length-append bs new, length-drop k old) in
    let twice : length u ≡ 2 * k = omega (arith, Spells-length u bs s) in
    Partial-after old (u ++ v) (bs ++ new) k (length u) twice (omega (arith, length-append u v)) size (omega arith)
    (rw (take_at u v (length u) refl, take_at bs new k e) s) (rw (drop_at u v (length u) refl, drop_at bs new k e) p)

-- the pairs are decoded, and a byte after them is invalid
pub last_rejected : (old u new : List ℕ) → (AllDigits (drop (2 * length old) u) → ⊥) → 2 * length old ≤ length u
    → length new ≡ length old → Spells (take (2 * length old) u) new → Partial old u new
last_rejected old u new invalid h l s =
    Partial-after old u new (length old) _ refl h l (omega arith) (rw (take_all (length old) new (omega arith)) s)
    (rw (drop_all (length old) new (omega arith), drop_all (length old) old (omega arith)) (none_decoded [] _ invalid))

-- ---- the next chunk of a decoder

-- a body is not longer than its text
pub body-shorter : (t : List ℕ) → length (body_of t) ≤ length t
body-shorter t = grind arith

-- the decoder d has read t and has written bs; after the pairs of t, the body goes on with w, which is the pending
-- digit if there is one, and with the digits of the chunk
module _ (d : Decoder) (chunk w digits : List ℕ)
    (next : (t pairs : List ℕ) → position_of d ≡ saturated (length t) → body_of t ≡ pairs ++ pending_digit d
    → length pairs % 2 ≡ 0 → body_of (t ++ chunk) ≡ pairs ++ (w ++ digits))
    (w_digits : AllDigits (pending_digit d) → AllDigits w) (t bs : List ℕ) (r : HasRead d t bs) where
  -- the body of the text, the chunk included
  next_body : body_of (t ++ chunk) ≡ r.pairs ++ (w ++ digits)
  next_body = next t r.pairs r.position r.body (omega (arith, Spells-length r.pairs bs r.decoded))

  -- the number of bytes of which both digits were read
  pub decoded_length : (count : ℕ) → count ≡ length (w ++ digits) / 2
      → length (body_of (t ++ chunk)) / 2 ≡ length bs + count
  decoded_length count e =
      omega (arith, e, Spells-length r.pairs bs r.decoded, ap length next_body ∙ length-append r.pairs (w ++ digits))

  -- the body has only digits
  pub body_is_digits : AllDigits digits → AllDigits (body_of (t ++ chunk))
  body_is_digits a =
      rw next_body
      ((digits_append _ _).1 (Spells-digits _ _ r.decoded, (digits_append w digits).1 (w_digits r.pending_valid, a)))

  -- e is the decoder after the chunk, which completes `count` pairs
  module _ (e : Decoder) (count : ℕ) (all : AllDigits digits) (none : error_of e ≡ None)
      (index : position_of e ≡ saturated (position_of d + length chunk))
      (pending : pending_digit e ≡ drop (2 * count) (w ++ digits)) where
    -- then it has read the chunk, too, and has written `out` for it
    pub decode_more : (out : List ℕ) → Spells (take (2 * count) (w ++ digits)) out → HasRead e (t ++ chunk) (bs ++ out)
    decode_more out s =
        let u = w ++ digits in
        let before = r.position in record {
          no_error = none;
          position = omega (arith, index, before, length-append t chunk);
          pairs = r.pairs ++ take (2 * count) u;
          body = rw (
            pending,
            append_assoc r.pairs (take (2 * count) u) (drop (2 * count) u),
            take-append-drop (2 * count) u,
          ) next_body;
          decoded = Spells-append r.pairs bs (take (2 * count) u) out r.decoded s;
          pending_valid = rw pending
              (All-drop IsDigit (2 * count) u ((digits_append w digits).1 (w_digits r.pending_valid, all)));
        }

    -- the same if no byte is written
    pub check_more : count ≡ length (w ++ digits) / 2 → (more : List ℕ) × HasRead e (t ++ chunk) (bs ++ more)
    check_more half =
        let pairs = take (2 * count) (w ++ digits) in
        let even : length pairs % 2 ≡ 0 = simp length-take (omega (arith, half)) in
        let (more, s) = Spells-some pairs even
        (All-take IsDigit (2 * count) _ ((digits_append w digits).1 (w_digits r.pending_valid, all))) in
        (more, decode_more more s)

  -- what the chunk adds to the body
  pub body_added : drop (2 * length bs) (body_of (t ++ chunk)) ≡ w ++ digits
  body_added = rw next_body (drop_at r.pairs (w ++ digits) (2 * length bs) (Spells-length r.pairs bs r.decoded))

  -- the first invalid character is in the chunk, at the position that `fail` computes: only the skipped bytes of the
  -- chunk come before the digits
  pub first_invalid_in_chunk : (p : ℕ) → length digits ≤ length chunk → FirstInvalidAt digits p
      → NamesInvalidSaturated (t ++ chunk) (slice_index digits p)
      (saturated (position_of d + (length chunk - length digits) + p))
  first_invalid_in_chunk p shorter f =
      let v = r.pairs ++ w in
      let body : body_of (t ++ chunk) ≡ v ++ digits = next_body ∙ sym (append_assoc r.pairs w digits) in
      let before_digits = (digits_append r.pairs w).1 (Spells-digits _ _ r.decoded, w_digits r.pending_valid) in
      let before = r.position in
      let parts = ap length body ∙ length-append v digits in
      let named : FirstInvalidAt (v ++ digits) (length v + p) =
      FirstInvalidAt-after (length v) (v ++ digits) p (rw (take_at v digits (length v) refl) before_digits)
      (omega (arith, length-append v digits))
      (rw (drop_at v digits (length v) refl) f) in (
        length v + p + (length (t ++ chunk) - length (body_of (t ++ chunk))),
        (length v + p, rw body named, rw body (sym (get_or-append-add v digits p 0)), refl),
        omega (arith, before, length-append t chunk, parts, body-shorter (t ++ chunk)),
      )

-- ---- what a decoder has read

-- the body of what was read without an error has only digits
pub read_digits : (d : Decoder) (t bs : List ℕ) → HasRead d t bs → AllDigits (body_of t)
read_digits d t bs r =
    rw r.body ((digits_append r.pairs (pending_digit d)).1 (Spells-digits _ _ r.decoded, r.pending_valid))

-- what follows two or more characters is added to the body
pub body-longer : (t u : List ℕ) → 2 ≤ length t → body_of (t ++ u) ≡ body_of t ++ u
body-longer t u h = grind arith

-- the decoded bytes stay a beginning, whatever text follows
pub read_front : (d : Decoder) (t bs u : List ℕ) → HasRead d t bs → Spells (take (2 * length bs) (body_of (t ++ u))) bs
read_front d t [] u r = tt
read_front d t (b ∷ bs) u r =
    let twice = Spells-length r.pairs (b ∷ bs) r.decoded in
    let size = ap length r.body ∙ length-append r.pairs (pending_digit d) in
    let long : 2 ≤ length t = omega (arith, twice, size, body-shorter t) in
    rw (
      body-longer t u long,
      r.body,
      append_assoc r.pairs (pending_digit d) u,
      take_at r.pairs (pending_digit d ++ u) (2 * length (b ∷ bs)) twice,
    ) r.decoded

-- ---- the end of a text

-- without a pending digit, there is none to add to the pairs
none_pending : (d : Decoder) → d.state ≢ 1 → pending_digit d ≡ []
none_pending d other = grind arith

-- then the text decodes to the bytes that were written
pub ends_even : (d : Decoder) (t bs : List ℕ) → HasRead d t bs → d.state ≢ 1 → DecodesTo t (Ok bs)
ends_even d t bs r other =
    let whole : body_of t ≡ r.pairs = r.body ∙ rw (none_pending d other) (append-nil r.pairs) in
    (omega (arith, Spells-length r.pairs bs r.decoded, ap length whole, body-parity t), rw whole r.decoded)

-- with a pending digit, the length of the text is odd
pub ends_odd : (d : Decoder) (t bs : List ℕ) → HasRead d t bs → d.state ≡ 1 → IsOdd (length t)
ends_odd d t bs r state_eq =
    let one : length (pending_digit d) ≡ 1 = grind arith in
    let size = ap length r.body ∙ length-append r.pairs (pending_digit d) in
    omega (arith, Spells-length r.pairs bs r.decoded, one, size, body-parity t)
