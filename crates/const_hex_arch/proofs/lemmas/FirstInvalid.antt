-- The first invalid character of a text, and what an output holds after the text was rejected.
--
-- `u` is the text, `p` is the index of its first invalid character, and `old` and `new` are the output before and
-- after. `i` or `k` bytes were decoded before the text was rejected, and `m` is twice that number. `Spells u bs` says
-- that the digits u decode to bs, and `Partial old u new` that `new` is such an output: some bytes before the invalid
-- character are decoded, and the rest is as in `old`. In a proof, the letters that its statement does not name are
-- the hypotheses, in order.
use Rattle.std.proofs.Common.{◌≡◌, ℕ, zero, suc, ◌+◌, ◌-◌, ◌%◌, ◌<◌, ◌≤◌, List, [], ◌∷◌, length, take, drop, slice_index, ◌⊎◌, inl, inr, refl, arith, take-add, length-take, get_or-take, get_or-drop, is_some, ◌*◌, get_or, bit_or, sym, ◌∙◌, drop-drop, subst, eq-zero-or-pos, true, false, Bool}
use Rattle.std.specs.Bool.{IsTrue}
use Rattle.std.proofs.lemmas.List.{drop-take}
use Rattle.std.proofs.lemmas.Grind.{common_steps}
use Rattle.std.proofs.lemmas.List.Elements.{All-nil, All-cons, All-head, All-tail, All-get_or}
use Rattle.std.proofs.lemmas.Bool.{cases_Bool}
use Rattle.std.proofs.lemmas.Nat.{or_lt}
use Rattle.const_hex_arch.specs.{hex_value, IsDigit, Spells, AllDigits, FirstInvalidAt, value_or_nil, Partial}
use Rattle.const_hex_arch.proofs.lemmas.Digits.{digits_append, digit_found, no_value, digit_small, digits_parts}
use Rattle.const_hex_arch.proofs.lemmas.Texts.{IsPair-of, Spells-append, Spells-parts, Spells-digits, Spells-length}

-- no text of digits has an invalid character
pub digits_not_invalid : (u : List ℕ) (p : ℕ) → AllDigits u → FirstInvalidAt u p → ⊥
digits_not_invalid u p a f = no_value (hex_value (slice_index u p)) f.here (All-get_or IsDigit u p 0 f.within a)

-- of two first invalid characters, none comes before the other
not_before : (u : List ℕ) (p q : ℕ) → p < q → FirstInvalidAt u p → FirstInvalidAt u q → ⊥
not_before u p q h f g =
    let len : p < length (take q u) = simp length-take (omega arith) in
    no_value _ f.here (rw (get_or-take q u p 0 h) at (All-get_or IsDigit (take q u) p 0 len g.before))

-- a text has one first invalid character
pub FirstInvalidAt-unique : (u : List ℕ) (p q : ℕ) → FirstInvalidAt u p → FirstInvalidAt u q → p ≡ q
FirstInvalidAt-unique u p q f g = grind (arith, not_before)

-- an invalid character after k digits
pub FirstInvalidAt-after : (k : ℕ) (u : List ℕ) (p : ℕ) → AllDigits (take k u) → k ≤ length u → FirstInvalidAt (drop k u) p
    → FirstInvalidAt u (k + p)
FirstInvalidAt-after k u p a h f =
    record {
      within = grind (arith, common_steps);
      before = rw (take-add k p u) ((digits_append _ _).1 (a, f.before));
      here = rw get_or-drop at f.here;
    }

-- a text has only digits, or it has a first invalid character
pub digits_or_invalid : (u : List ℕ) → AllDigits u ⊎ ((p : ℕ) × FirstInvalidAt u p)
digits_or_invalid [] = inl (All-nil IsDigit)
digits_or_invalid (b ∷ u) =
    elim (cases_Bool (is_some (hex_value b))) [
      | inl here ↦
          elim (digits_or_invalid u) [
            | inl a ↦ inl (All-cons IsDigit b u here a)
            | inr (p, f) ↦
                let before = All-cons IsDigit b (take p u) here f.before in
                inr (suc p, record { within = omega arith; before = before; here = f.here })
          ]
      | inr n ↦ inr (zero, record { within = omega arith; before = All-nil IsDigit; here = n })
    ]

-- if not every byte is a digit, there is a first invalid character
pub first_invalid : (u : List ℕ) → (AllDigits u → ⊥) → (p : ℕ) × FirstInvalidAt u p
first_invalid u n = elim (digits_or_invalid u) [ inl a ↦ absurd (n a) | inr f ↦ f ]

-- digits, two for each byte, decode to bytes
pub Spells-some : (u : List ℕ) → length u % 2 ≡ 0 → AllDigits u → (bs : List ℕ) × Spells u bs
Spells-some [] e a = ([], tt)
Spells-some (c ∷ []) e a = absurd (omega arith)
Spells-some (c ∷ d ∷ u) e a =
    let rest = All-tail IsDigit c (d ∷ u) a in
    let high = digit_found c _ refl (All-head IsDigit c (d ∷ u) a) in
    let low = digit_found d _ refl (All-head IsDigit d u rest) in
    let more = Spells-some u (omega arith) (All-tail IsDigit d u rest) in
    (_ ∷ more.0, (IsPair-of c d _ _ _ high low refl, more.1))

-- ---- what an output holds after a text was rejected

-- nothing was decoded
pub none_decoded : (old u : List ℕ) → (AllDigits u → ⊥) → Partial old u old
none_decoded old u n =
    let r = first_invalid u n in
    record { invalid_index = r.0; done = 0; first_invalid = r.1; not_past = omega arith; same_length = refl; front = tt; rest = refl }

-- a text that is rejected after k bytes were decoded
pub Partial-after : (old u new : List ℕ) (k m : ℕ) → m ≡ 2 * k → m ≤ length u → length new ≡ length old → k ≤ length new
    → Spells (take m u) (take k new) → Partial (drop k old) (drop m u) (drop k new) → Partial old u new
Partial-after old u new k m e h l b s p =
    record {
      invalid_index = m + p.invalid_index;
      done = k + p.done;
      first_invalid = FirstInvalidAt-after m u p.invalid_index (Spells-digits _ _ s) h p.first_invalid;
      not_past = omega arith;
      same_length = l;
      front =
          let q : 2 * (k + p.done) ≡ m + 2 * p.done = omega arith in
          rw (q, take-add m (2 * p.done) u, take-add k p.done new) (Spells-append _ _ _ _ s p.front);
      rest = sym (drop-drop p.done k new) ∙ p.rest ∙ drop-drop p.done k old;
    }

-- what two lists share from a position on, they share from a later one on
drop_further : (a b : List ℕ) (i j : ℕ) → i ≤ j → drop i a ≡ drop i b → drop j a ≡ drop j b
drop_further a b i j h e =
    let q : i + (j - i) ≡ j = omega arith in
    rw (← q, ← drop-drop (j - i) i a, ← drop-drop (j - i) i b, e) refl

-- the first bytes of an output, of which the first i are overwritten, and n more are as before
front_kept : (i n : ℕ) (u mid new : List ℕ) → Spells (take (2 * i) u) (take i new) → drop i new ≡ drop i mid
    → Spells (take (2 * (i + n)) u) (take (i + n) mid) → Spells (take (2 * (i + n)) u) (take (i + n) new)
front_kept i n u mid new s e t =
    let m : 2 * (i + n) ≡ 2 * i + 2 * n = omega arith in
    let later : Spells (take (2 * n) (drop (2 * i) u)) (take n (drop i mid)) =
    rw (drop-take (2 * i) (2 * n) u, drop-take i n mid) at (Spells-parts _ _ i (2 * i) refl (rw m at t)).1 in
    rw (m, take-add (2 * i) (2 * n) u, take-add i n new, e) (Spells-append _ _ _ _ s later)

-- a text that is rejected a second time
pub rejected_again : {old u mid new : List ℕ} → Partial old u mid → Partial mid u new → Partial old u new
rejected_again {old} {u} {mid} {new} p q =
    elim (eq-zero-or-pos (p.done - q.done)) [
      | inl z ↦ record {
        invalid_index = q.invalid_index;
        done = q.done;
        first_invalid = q.first_invalid;
        not_past = q.not_past;
        same_length = q.same_length ∙ p.same_length;
        front = q.front;
        rest = q.rest ∙ drop_further mid old p.done q.done (omega arith) p.rest;
      }
      | inr more ↦ record {
        invalid_index = p.invalid_index;
        done = p.done;
        first_invalid = p.first_invalid;
        not_past = p.not_past;
        same_length = q.same_length ∙ p.same_length;
        front =
            let n = p.done - q.done in
            let sum : q.done + n ≡ p.done = omega arith in
            subst (λ j. Spells (take (2 * j) u) (take j mid) → Spells (take (2 * j) u) (take j new)) sum
            (front_kept q.done n u mid new q.front q.rest) p.front;
        rest = drop_further new mid q.done p.done (omega arith) q.rest ∙ p.rest;
      }
    ]

-- a text of digits is not rejected
pub digits_accepted : {old u new : List ℕ} (r : Bool) → (IsTrue r → Spells u new) → (r ≡ false → Partial old u new)
    → AllDigits u → Spells u new
digits_accepted true s p a = s refl
digits_accepted false s p a = absurd (digits_not_invalid _ _ a (p refl).first_invalid)

-- two bytes, after i pairs, whose values, or NIL, have a bit that no value has
pub rejected_pair : (old u new : List ℕ) (i high low : ℕ) → Spells (take (2 * i) u) (take i new)
    → drop i new ≡ drop i old → 2 * i + 1 < length u
    → length new ≡ length old → high ≡ value_or_nil (hex_value (get_or u (2 * i) 0))
    → low ≡ value_or_nil (hex_value (get_or u (2 * i + 1) 0))
    → 16 ≤ bit_or high low → Partial old u new
rejected_pair old u new i high low s d h l e f large =
    let within : i ≤ length new =
    omega (arith, Spells-length _ _ s, length-take (2 * i) u, length-take i new) in
    let not_digits : AllDigits (drop (2 * i) u) → ⊥ = λ a.
    let here = (digits_parts (2 * i) u).1 (Spells-digits _ _ s, a) in
    let first = digit_small (get_or u (2 * i) 0) high e (All-get_or IsDigit u (2 * i) 0 (omega arith) here) in
    let second = digit_small (get_or u (2 * i + 1) 0) low f (All-get_or IsDigit u (2 * i + 1) 0 h here) in
    omega (arith, or_lt 4 high low first second) in
    Partial-after old u new i (2 * i) refl (omega arith) l within s
    (rw d (none_decoded (drop i old) (drop (2 * i) u) not_digits))
