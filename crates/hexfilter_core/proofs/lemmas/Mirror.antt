-- A text that was encoded in lines or groups is decoded to the same bytes, with the options that mirror those of
-- encoding.
--
-- `i` says whether whitespace is ignored, `n` and `s` are the size and the separator of groups, and `k` is the number
-- of characters in the last group so far. `t` is the encoded text without separators. `DecodesTo t r` says that t
-- decodes to the result r, and `Spells u bs` that the digits u decode to bs. In a proof, the letters that its
-- statement does not name are the hypotheses, in order.
use Rattle.std.proofs.Common.{◌≡◌, ◌≢◌, ℕ, ◌+◌, ◌<◌, ◌≤◌, ◌==◌, ◌&&◌, ◌||◌, Bool, true, false, if◌then◌else◌, List, [], ◌∷◌, ◌++◌, length, min, Option, None, Some, Ok, refl, ap, ◌∙◌, arith, append_assoc, append-nil, All}
use Rattle.std.proofs.KnownBytes.{Consumes-all}
use Rattle.std.proofs.lemmas.Bool.Decides.{nat_tests}
use Rattle.std.proofs.lemmas.List.Elements.{All-cons, All-head, All-nil, All-tail, All-weaker}
use Rattle.std.specs.Io.KnownBytes.{Appends, Consumes}
use Rattle.const_hex.proofs.lemmas.Decoding.{body-longer}
use Rattle.const_hex.proofs.lemmas.Reading.{result_unique}
use Rattle.const_hex.proofs.lemmas.RoundTrip.{DecodesTo-full_text}
use Rattle.const_hex.specs.Prelude.{AreBytes, IsEven, DecodesTo, body_of, AllDigits, IsDigit, full_text, hex_text, prefix_of}
use Rattle.const_hex_arch.proofs.lemmas.Digits.{digits_append}
use Rattle.const_hex_arch.proofs.lemmas.Texts.{Spells-digits, Spells-hex_text}
use Rattle.hexfilter_core.specs.Dumps.{FromHexError, Groups, HasError, IgnoresLines, InvalidHexCharacter, OddLength, Location, Reading, encoded, groups_from, is_whitespace, mirror, text_from, text_of}
use Rattle.hexfilter_core.specs.Runs.{Decode, RunsToEnd, RunsToError}
use Rattle.hexfilter_core.proofs.lemmas.Texts.{text-append}

-- the byte is not whitespace
abbrev IsVisible : ℕ → Type 0
IsVisible b = is_whitespace b ≡ false

-- the options of decoding with these groups
abbrev reading : Bool → ℕ → ℕ → Reading
reading i n s = record { is_check = false; ignore_whitespace = i; groups = record { size = n; separator = s } }

-- lines, or a text without groups, are read without the ends of lines
lines_read : (i : Bool) (n k : ℕ) (t : List ℕ) → (0 < n → i ≡ true) → k ≤ n → All IsVisible t
    → text_from (reading i 0 10) 0 (groups_from (record { size = n; separator = 10 }) k t) ≡ t
unfolding groups_from text_from
lines_read i n k [] all fits plain = grind (arith, nat_tests, all, fits)
lines_read i n k (b ∷ t) all fits plain =
    let one = All-head IsVisible b t plain in
    let rest = All-tail IsVisible b t plain in
    let first = λ (h : 0 < n). lines_read i n 1 t all (omega (arith, h)) rest in
    let more = lines_read i n (min (k + 1) n) t all (omega arith) rest in
    grind (arith, nat_tests, all, one, first, more)

-- groups are read without their separators
groups_read : (i : Bool) (n s k : ℕ) (t : List ℕ) → k ≤ n → s ≢ 10 → All IsVisible t
    → text_from (reading i n s) k (groups_from (record { size = n; separator = s }) k t) ≡ t
unfolding groups_from text_from
groups_read i n s k [] fits other plain = grind (arith, nat_tests, other)
groups_read i n s k (b ∷ t) fits other plain =
    let one = All-head IsVisible b t plain in
    let rest = All-tail IsVisible b t plain in
    let first = λ (h : 0 < n). groups_read i n s 1 t (omega (arith, h)) other rest in
    let more = groups_read i n s (min (k + 1) n) t (omega arith) other rest in
    grind (arith, nat_tests, fits, other, one, first, more)

-- a text stays visible with a prefix before it
with_prefix : (prefix : Bool) (t : List ℕ) → All IsVisible t
    → All IsVisible (prefix_of prefix ++ t)
with_prefix true t h =
    All-cons IsVisible 48 (120 ∷ t) refl (All-cons IsVisible 120 t refl h)
with_prefix false t h = h

-- encoded text has no whitespace
encoded_is_visible : (prefix up : Bool) (x : List ℕ) → AreBytes x
    → All IsVisible (full_text prefix up x)
encoded_is_visible prefix up x h =
    let digits =
    All-weaker IsDigit IsVisible (λ b h. grind (arith, nat_tests, h)) (hex_text up x)
    (Spells-digits (hex_text up x) x (Spells-hex_text up x h)) in
    with_prefix prefix (hex_text up x) digits

-- lines and groups, by their separator
by_separator : (i : Bool) (n s : ℕ) (t : List ℕ) (lines : Bool) → (s == 10) ≡ lines
    → All IsVisible t
    → let g : Groups = record { size = n; separator = s } in
    IgnoresLines i g → text_of (mirror i g) (groups_from g 0 t) ≡ t
by_separator i n s t true e plain ignores =
    let newline : s ≡ 10 = grind (arith, nat_tests, e) in
    rw newline (lines_read i n 0 t (λ some. ignores (grind (arith, nat_tests, e, some))) (omega arith) plain)
by_separator i n s t false e plain ignores =
    rw e (groups_read i n s 0 t (omega arith) (λ newline. grind (arith, nat_tests, e, newline)) plain)

-- c is a digit: either the 0 of a prefix, which is removed (b), or the first digit of the body
first_is_digit : (c d : ℕ) (v : List ℕ) (b : Bool) → ((c == 48) && (d == 120 || d == 88)) ≡ b
    → AllDigits (if b then v else c ∷ d ∷ v) → AllDigits (c ∷ [])
first_is_digit c d v true e h = All-cons IsDigit c [] (grind (arith, nat_tests, e)) (All-nil IsDigit)
first_is_digit c d v false e h = All-cons IsDigit c [] (All-head IsDigit c (d ∷ v) h) (All-nil IsDigit)

-- if the body of a whole text has only digits, so has the body of its beginning
body_front : (u v : List ℕ) → AllDigits (body_of (u ++ v)) → AllDigits (body_of u)
body_front [] v h = All-nil IsDigit
body_front (c ∷ []) [] h = h
body_front (c ∷ []) (d ∷ v) h = first_is_digit c d v _ refl h
body_front (c ∷ d ∷ u) v h =
    ((digits_append (body_of (c ∷ d ∷ u)) v).0 (rw (body-longer (c ∷ d ∷ u) v (omega arith)) at h)).0

-- an input with an error in a part of it cannot be decoded
pub not_decoded : (r : Reading) (whole : List ℕ) (in_after : Option (List ℕ)) (x y bytes : List ℕ) (e : FromHexError)
    (location : Option Location) → Consumes (Some whole) in_after x → HasError r in_after x y e location
    → DecodesTo (text_of r whole) (Ok bytes) → ⊥
not_decoded r whole None x y bytes e location read fails reads = read
not_decoded r whole (Some rest) x y bytes OddLength location read (none, end, odd, pairs) (even, decodes) =
    let same : IsEven (length (text_of r x)) = rw (read ∙ ap (λ l. x ++ l) end ∙ append-nil x) at even in
    omega (arith, odd, same)
not_decoded r whole (Some rest) x y bytes (InvalidHexCharacter c k) location read fails (even, decodes) =
    let front = fails.front ++ c ∷ [] in
    let more = fails.rest ++ rest in
    let cut : whole ≡ front ++ more = simp append_assoc (rw (fails.cut, append_assoc) at read) in
    let digits = Spells-digits (body_of (text_of r whole)) bytes decodes in
    fails.invalid (body_front (text_of r front) _ (rw (cut, text-append r 0 front more) at digits))
not_decoded r whole in_after x y bytes _ location read fails reads = fails

module _ (prefix up i : Bool) (g : Groups) (ignores : IgnoresLines i g) (bytes : List ℕ) (are : AreBytes bytes) where
  -- the encoded text decodes to the bytes
  read : (x : List ℕ) → x ≡ encoded prefix up g bytes → DecodesTo (text_of (mirror i g) x) (Ok bytes)
  read x text_eq =
      DecodesTo-full_text _ prefix up bytes are (ap (text_of (mirror i g)) text_eq
      ∙ by_separator i g.size g.separator _ _ refl (encoded_is_visible prefix up bytes are) ignores)

  -- the bytes are decoded again
  pub decoded_again : (x : List ℕ) (in_after out_before out_after : Option (List ℕ)) → x ≡ encoded prefix up g bytes
      → RunsToEnd (Decode (mirror i g)) (Some x) in_after out_before out_after → Appends out_before out_after bytes
  decoded_again x in_after out_before out_after text_eq (y, z, consumed, end, (found, reads, same), wrote) =
      let whole = Consumes-all (Some x) in_after y [] y consumed end refl in
      let again : found ≡ bytes = cc (result_unique _ (Ok found) (Ok bytes) reads (read y (whole ∙ text_eq))) in
      rw (same ∙ again) at wrote

  -- and never rejected
  pub never_rejected : (x : List ℕ) (in_after out_before out_after : Option (List ℕ)) (e : FromHexError)
      (location : Option Location) → x ≡ encoded prefix up g bytes
      → RunsToError (Decode (mirror i g)) (Some x) in_after out_before out_after e location → ⊥
  never_rejected x in_after out_before out_after e location text_eq (y, z, consumed, (found, fails, same), wrote) =
      not_decoded (mirror i g) x in_after y found bytes e location consumed fails (read x text_eq)
