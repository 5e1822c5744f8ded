-- The text of an input that is scanned in parts, and what was written for it.
--
-- `r` are the options of decoding. `x` is the input so far, `u` are the bytes that follow, and `v` is what they add
-- to the text. `y` and `z` are the output so far and what follows. `k` is the number of characters in the last group
-- so far, `s` a scanner or the state of a run, and `has` the invariant of it. `Spells u y` says that the digits u
-- decode to y, `SpellsPairs` that a text of digits does so by its pairs, and `SpellsBeginning` that some of its first
-- digits do. In a proof, the letters that its statement does not name are the hypotheses, in order.
use Rattle.std.proofs.lemmas.Grind.{common_steps}
use borrow.Rule.Slice.PartMut.{put_mid, post_of}
use Rattle.std.proofs.Common.{◌≡◌, ◌≢◌, ℕ, ◌+◌, ◌-◌, ◌*◌, ◌/◌, ◌<◌, ◌≤◌, ◌&&◌, min, if◌then◌else◌, Bool, true, false, List, [], ◌∷◌, ◌++◌, Option, None, Some, Ok, suc, zero, length, take, drop, get_or, refl, sym, ap, ◌∙◌, arith, append_assoc, length-append, All, nat_lt}
use Rattle.std.proofs.Math.Seq.{take-add, take-append-add}
use Rattle.std.proofs.lemmas.Bool.Decides.{nat_tests}
use Rattle.std.proofs.lemmas.List.{append-nil, length-take, length-take-le, take-append-drop, take-append-le, take-take, take_all, take_min, take_more}
use Rattle.std.proofs.lemmas.List.Elements.{All-head, All-tail}
use Rattle.const_hex.proofs.lemmas.Decoding.{body-longer, body-shorter, read_digits, read_front}
use Rattle.const_hex.specs.Prelude.{HasRead, saturated, pending_digit}
use Rattle.const_hex_arch.proofs.lemmas.Texts.{Spells-length, Spells-parts}
use Rattle.hexfilter_core.specs.Stages.{Decoder, HasAdded, HasDecoded, HasOutput, HasScanned, HasWritten, Reaches, Scanner, Stage}
use Rattle.hexfilter_core.specs.Dumps.{FromHexError, HasError, InvalidHexCharacter, IsLocation, OddLength, Location, Reading, SpellsBeginning, SpellsPairs, body_of, encoded, group_fill_after, group_fill_after_all, is_whitespace, leaves_out, text_from, text_of, text_of_byte}
use Rattle.hexfilter_core.specs.Runs.{Decode, Encode, OutputsBeginning, Mode, DecodesTo, RunError, Text}

-- the text of two parts of an input
pub text-append : (r : Reading) (k : ℕ) (x y : List ℕ)
    → text_from r k (x ++ y) ≡ text_from r k x ++ text_from r (group_fill_after_all r k x) y
unfolding text_from group_fill_after_all
text-append r k [] y = refl
text-append r k (b ∷ x) y =
    grind (arith, append_assoc, text-append r (group_fill_after r k b) x y)

-- the fill of the last group after two parts of an input
pub group_fill-append : (r : Reading) (k : ℕ) (x y : List ℕ)
    → group_fill_after_all r k (x ++ y) ≡ group_fill_after_all r (group_fill_after_all r k x) y
unfolding group_fill_after_all
group_fill-append r k [] y = refl
group_fill-append r k (b ∷ x) y = group_fill-append r (group_fill_after r k b) x y

-- the text of an input and one byte more
pub text-byte : (r : Reading) (x : List ℕ) (b : ℕ)
    → text_of r (x ++ b ∷ []) ≡ text_of r x ++ text_of_byte r (group_fill_after_all r 0 x) b
unfolding text_from
text-byte r x b =
    text-append r 0 x (b ∷ []) ∙ ap (λ t. text_of r x ++ t) (append-nil (text_of_byte r (group_fill_after_all r 0 x) b))

-- ---- bytes that are not left out

-- a group is filled at most to its size
pub group_fill_bound : (r : Reading) (k : ℕ) (x : List ℕ) → k ≤ r.groups.size → group_fill_after_all r k x ≤ r.groups.size
unfolding group_fill_after_all
group_fill_bound r k [] h = h
group_fill_bound r k (b ∷ x) h = group_fill_bound r (group_fill_after r k b) x (grind (arith, nat_tests, h))

-- the text of a run of bytes, none of which is left out, is the run
pub text_of_run : (r : Reading) (k : ℕ) (run : List ℕ) → k ≤ r.groups.size
    → (0 < r.groups.size → k + length run ≤ r.groups.size)
    → All (λ b. (r.ignore_whitespace && is_whitespace b) ≡ false) run
    → (text_from r k run ≡ run) × (group_fill_after_all r k run ≡ min (k + length run) r.groups.size)
unfolding text_from group_fill_after_all
text_of_run r k [] h fits all = (refl, omega (arith, h))
text_of_run r k (b ∷ x) h fits all =
    let own = All-head (λ b. (r.ignore_whitespace && is_whitespace b) ≡ false) b x all in
    let one : (text_of_byte r k b ≡ b ∷ []) × (group_fill_after r k b ≡ min (k + 1) r.groups.size) =
    grind (arith, nat_tests, fits, own) in
    let rest = text_of_run r (group_fill_after r k b) x (omega (arith, one.1))
    (λ some. omega (arith, one.1, fits some, some))
    (All-tail (λ b. (r.ignore_whitespace && is_whitespace b) ≡ false) b x all) in
    (rw (one.0, rest.0) refl, omega (arith, rest.1, one.1, h))

-- if nothing is left out, there are no groups
no_groups : (r : Reading) → leaves_out r ≡ false → r.groups.size ≡ 0
no_groups r h = grind (arith, nat_tests, h)

-- the text of an input from which nothing can be left out is the input
pub text_plain : (r : Reading) (x : List ℕ) → leaves_out r ≡ false → text_of r x ≡ x
unfolding text_from
text_plain r [] h = refl
text_plain r (b ∷ x) h = grind (arith, nat_tests, h, text_plain r x h)

-- all of the next bytes belong to the text if nothing is left out
pub plain_added : (r : Reading) (s : Scanner) (x u : List ℕ) → leaves_out r ≡ false → HasScanned r s x
    → HasAdded r s x u u
plain_added r s x u h has = record {
  text = text_plain r (x ++ u) h ∙ ap (λ l. l ++ u) (sym (text_plain r x h));
  scanned = record {
    group_fill = omega (
      arith,
      has.group_fill,
      no_groups r h,
      group_fill_bound r 0 x (omega arith),
      group_fill_bound r 0 (x ++ u) (omega arith),
    );
    location = λ some. cc;
  };
}

-- a further part is decoded
pub decoded_more : (r : Reading) (old new : Stage) (s : Scanner) (x part text y z : List ℕ)
    → HasDecoded r old x y → HasAdded r s x part text → HasWritten r new.decoder (text_of r x ++ text) (y ++ z)
    → new.scanner ≡ s → new.bytes_read ≡ saturated (old.bytes_read + length part)
    → HasDecoded r new (x ++ part) (y ++ z)
decoded_more r old new s x part text y z has more wrote scanner_eq read_eq = record {
  text = rw more.text wrote;
  scanned = rw scanner_eq more.scanned;
  count = omega (arith, has.count, read_eq, length-append x part);
}

-- a byte above the space (33 or more) is neither whitespace nor a newline
high : (ignores : Bool) (b : ℕ) → nat_lt b 33 ≡ false → ((ignores && is_whitespace b) ≡ false) × (b ≢ 10)
high true b h = (grind (arith, nat_tests, h), λ e. grind (arith, nat_tests, h, e))
high false b h = (refl, λ e. grind (arith, nat_tests, h, e))

-- a run of such bytes, within one group, is added to the text as it is
pub high_added : (r : Reading) (s : Scanner) (group_fill : ℕ) (location : Location) (x u : List ℕ) → HasScanned r s x
    → All (λ b. nat_lt b 33 ≡ false) u
    → (0 < r.groups.size → s.group_fill + length u ≤ r.groups.size) → group_fill ≡ min (s.group_fill + length u) r.groups.size
    → (IsLocation x s.location → All (λ b. b ≢ 10) u → IsLocation (x ++ u) location)
    → HasAdded r (record { group_fill = group_fill; location = location }) x u u
high_added r s group_fill location x u has above fits at goes =
    let run = text_of_run r s.group_fill u (omega (arith, has.group_fill, group_fill_bound r 0 x (omega arith))) fits
    (λ k d inside. (high r.ignore_whitespace _ (above k d inside)).0) in record {
      text = text-append r 0 x u ∙ ap (λ t. text_of r x ++ t) (rw has.group_fill at run.0);
      scanned = record {
        group_fill = at ∙ sym (group_fill-append r 0 x u ∙ ap (λ k. group_fill_after_all r k u) (sym has.group_fill) ∙ run.1);
        location = λ some. goes (has.location some) (λ k d inside. (high r.ignore_whitespace _ (above k d inside)).1);
      };
    }

-- ---- the parts of a chunk

-- the first a + k elements, after ys was written at the index a
pub take_put : (a m k : ℕ) (xs ys : List ℕ) → a ≤ length xs → k ≤ length ys
    → take (a + k) (put_mid a m xs ys) ≡ take a xs ++ take k ys
take_put a m k xs ys started within =
    let front = length-take-le a xs started in
    let both = take-append-add (take a xs) (ys ++ post_of a m xs) k
    ∙ ap (λ l. take a xs ++ l) (take-append-le k ys (post_of a m xs) within) in
    rw front at both

-- the first `done` bytes of a chunk, and then n more
pub append_chunk_part : (x chunk : List ℕ) (done n : ℕ) → done ≤ length chunk
    → (x ++ take done chunk) ++ take n (take (length chunk - done) (drop done chunk)) ≡ x ++ take (done + n) chunk
append_chunk_part x chunk done n started =
    grind (arith, common_steps, take-add done n chunk)

-- the first `done` bytes of a chunk, and then one more
pub append_chunk_byte : (x chunk : List ℕ) (done : ℕ) → done < length chunk
    → (x ++ take done chunk) ++ get_or chunk done 0 ∷ [] ≡ x ++ take (done + 1) chunk
append_chunk_byte x chunk done inside = grind (arith, common_steps, take_more chunk done 0 inside)

-- `done` bytes of a chunk were scanned, and `end` bytes of the text were written to the output
module _ (r : Reading) (before after : Scanner) (x chunk out : List ℕ) (end done : ℕ)
    (so_far : HasAdded r before x (take done chunk) (take end out)) where
  -- and then the bytes u, which add v to the text
  added : (u v part text : List ℕ) → (x ++ take done chunk) ++ u ≡ x ++ part → text ≡ take end out ++ v
      → HasAdded r after (x ++ take done chunk) u v → HasAdded r after x part text
  added u v part text whole put more = record {
    text = ap (text_of r) (sym whole) ∙ more.text ∙ ap (λ l. l ++ v) so_far.text
        ∙ append_assoc (text_of r x) (take end out) v ∙ ap (λ l. text_of r x ++ l) (sym put);
    scanned = rw whole at more.scanned;
  }

  -- a run
  pub added_run : (m n : ℕ) (new : List ℕ) → done ≤ length chunk → end ≤ length out → n ≤ length new
      → ((y : List ℕ) → HasScanned r before y
      → HasAdded r after y (take n (take (length chunk - done) (drop done chunk))) (take n new))
      → HasAdded r after x (take (done + n) chunk) (take (end + n) (put_mid end m out new))
  added_run m n new started within few run =
      added _ _ _ _ (append_chunk_part x chunk done n started) (take_put end m n out new within few)
      (run (x ++ take done chunk) so_far.scanned)

  -- a byte
  pub added_byte : (new v : List ℕ) (k : ℕ) → done < length chunk → take k new ≡ take end out ++ v
      → HasAdded r after (x ++ take done chunk) (get_or chunk done 0 ∷ []) v
      → HasAdded r after x (take (done + 1) chunk) (take k new)
  added_byte new v k inside put byte = added _ v _ _ (append_chunk_byte x chunk done inside) put byte

-- ---- what a text decodes to

module _ (r : Reading) (d : Decoder) (x y : List ℕ) (has : HasRead d (text_of r x) y) where
  -- what was written is what some of the first digits decode to
  decodes : SpellsBeginning r x y
  decodes = rw append-nil at (read_front d (text_of r x) y [] has)

  -- it is what all pairs of digits decode to
  pub pairs : SpellsPairs (text_of r x) y
  pairs =
      let twice = Spells-length has.pairs y has.decoded in
      let whole = ap length has.body ∙ length-append has.pairs (pending_digit d) in
      let few : length (pending_digit d) ≤ 1 = grind arith in
      let same : 2 * (length (body_of (text_of r x)) / 2) ≡ 2 * length y = omega (arith, twice, whole, few) in
      (read_digits d (text_of r x) y has, rw same decodes)

-- a beginning of what is decoded
pub fewer_decoded : (r : Reading) (x y : List ℕ) (k : ℕ) → SpellsBeginning r x y → SpellsBeginning r x (take k y)
fewer_decoded r x y k h =
    let n = length (take k y) in
    let few : n ≤ length y = omega (arith, length-take k y) in
    let part = (Spells-parts (take (2 * length y) (body_of (text_of r x))) y n (2 * n) refl h).0 in
    let same : take n y ≡ take k y = ap (λ m. take m y) (length-take k y) ∙ take_min k y in
    rw (take-take (2 * n) (2 * length y) (body_of (text_of r x)) (omega arith), same) at part

-- ---- what is written

-- the beginning of what is written, if only checking (c) writes nothing
take_written : (c : Bool) (bytes : List ℕ) (k : ℕ) → take k (if c then [] else bytes) ≡ (if c then [] else take k bytes)
take_written c bytes k = grind (arith, take_all)

-- the first k bytes of such a beginning are one, too
pub shorter_output : (m : Mode) (x y : List ℕ) (k : ℕ) → OutputsBeginning m x y → OutputsBeginning m x (take k y)
shorter_output (Encode prefix upper g) x y k (rest, output_eq) = (
  drop k y ++ rest,
  output_eq ∙ ap (λ l. l ++ rest) (sym (take-append-drop k y)) ∙ append_assoc (take k y) (drop k y) rest,
)
shorter_output (Decode r) x y k (bytes, decodes, output_eq) =
    (take k bytes, fewer_decoded r x bytes k decodes, ap (take k) output_eq ∙ take_written r.is_check bytes k)

-- what all pairs of digits decode to is a beginning, whatever follows
pairs_beginning : (r : Reading) (x more y : List ℕ) → SpellsPairs (text_of r x) y → SpellsBeginning r (x ++ more) y
pairs_beginning r x more [] h = tt
pairs_beginning r x more (b ∷ y) (digits, decodes) =
    let t = text_of r x in
    let u = text_from r (group_fill_after_all r 0 x) more in
    let n = 2 * (length (body_of t) / 2) in
    let twice = Spells-length (take n (body_of t)) (b ∷ y) decodes in
    let size : n ≡ 2 * length (b ∷ y) = omega (arith, twice, length-take n (body_of t)) in
    let longer = body-longer t u (omega (arith, size, body-shorter t)) in
    rw (
      text-append r 0 x more,
      longer,
      take-append-le (2 * length (b ∷ y)) (body_of t) u (omega (arith, size)),
      ← size,
    ) decodes

-- the bytes of a whole text are a beginning
read_beginning : (r : Reading) (x y : List ℕ) → DecodesTo (text_of r x) (Ok y) → SpellsBeginning r x y
read_beginning r x y (even, decodes) =
    let twice = Spells-length (body_of (text_of r x)) y decodes in
    rw (take_all (2 * length y) (body_of (text_of r x)) (omega (arith, twice))) decodes

-- the bytes before an error are a beginning
error_beginning : (r : Reading) (in_after : Option (List ℕ)) (x y : List ℕ) (e : FromHexError) (location : Option Location)
    → HasError r in_after x y e location → SpellsBeginning r x y
error_beginning r in_after x y OddLength location (none, end, odd, pairs) = rw append-nil at (pairs_beginning r x [] y pairs)
error_beginning r in_after x y (InvalidHexCharacter c i) location h =
    rw h.cut (pairs_beginning r h.front (c ∷ h.rest) y h.bytes)
error_beginning r in_after x y _ location h = absurd h

-- the output so far is a beginning of the whole output
pub output_so_far : (m : Mode) (s : Stage) (x y : List ℕ) → HasOutput m s x y → OutputsBeginning m x y
output_so_far (Encode prefix upper g) s x y has =
    (_, ap (λ l. encoded prefix upper g l) (sym (append-nil x)) ∙ has.rest [])
output_so_far (Decode r) s x y has =
    (has.text.bytes, decodes r s.decoder x has.text.bytes has.text.read, has.text.output)

-- so is the output after one more chunk, at the end, or before an error
pub reached_beginning : (m : Mode) (s : Stage) (in_after : Option (List ℕ)) (n : ℕ) (x y : List ℕ) (o : Option RunError)
    → Reaches m s in_after n x y o → OutputsBeginning m x y
reached_beginning (Encode prefix upper g) s in_after zero x y None (more, end) = ([], sym (end refl) ∙ sym (append-nil y))
reached_beginning (Decode r) s in_after zero x y None (more, end) =
    let (bytes, reads, output_eq) = end refl in (bytes, read_beginning r x bytes reads, output_eq)
reached_beginning m s in_after (suc n) x y None (more, end) = output_so_far m s x y (more (omega arith))
reached_beginning (Encode prefix upper g) s in_after n x y (Some (Text e location)) h = absurd h
reached_beginning (Decode r) s in_after n x y (Some (Text e location)) (bytes, fails, output_eq) =
    (bytes, error_beginning r in_after x bytes e location fails, output_eq)
reached_beginning m s in_after n x y (Some e) h = absurd h
