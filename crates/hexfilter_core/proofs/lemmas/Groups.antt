-- A text that is written in groups, and encoded in chunks.
--
-- `g` are the groups, and `c` is the number of characters that the last group has. `u` and `t` are parts of the text,
-- `done` and `count` numbers of its characters, and `out` is what was written. `x` and `y` are the input and the
-- output so far, `chunk` and `z` those that follow. `PutsInto g c t y d` says that t is written in groups as y, from
-- c characters in the last group to d. In a proof, the letters that its statement does not name are the hypotheses,
-- in order.
use Rattle.std.proofs.Common.{◌≡◌, ℕ, ◌+◌, ◌-◌, ◌<◌, ◌≤◌, List, [], ◌∷◌, ◌++◌, length, min, take, drop, get_or, slice_set, refl, sym, ap, ◌∙◌, arith, append_assoc, length-append, Bool, false, Result, take-add, length-set, length-take, length-take-le, length-drop, take-take, take_all, append-nil, OnErr, OnOk}
use Rattle.std.proofs.lemmas.Bool.Decides.{nat_tests}
use Rattle.std.proofs.lemmas.List.{take_more_set}
use borrow.Rule.Slice.PartMut.{put_mid}
use Rattle.hexfilter_core.proofs.lemmas.Texts.{take_put}
use Rattle.hexfilter_core.specs.Dumps.{Groups, PutsInto, groups_from, encoded, last_newline}
use Rattle.const_hex.specs.Prelude.{full_text, hex_text, prefix_of}
use Rattle.const_hex_arch.proofs.lemmas.Texts.{hex_text-append, hex_text-nil}
use Rattle.hexfilter_core.specs.Stages.{Stage, HasEncoded}

-- characters that fit into the last group
within_group : (g : Groups) (c : ℕ) (u t : List ℕ) → c + length u ≤ g.size
    → groups_from g c (u ++ t) ≡ u ++ groups_from g (c + length u) t
unfolding groups_from
within_group g c [] t h = grind arith
within_group g c (b ∷ u) t h =
    let more = within_group g (c + 1) u t (omega arith) in
    let next : min (c + 1) g.size ≡ c + 1 = omega (arith, h) in
    grind (arith, nat_tests, more, next, h)

-- without groups, the text is written as it is
pub without_groups : (g : Groups) (c : ℕ) (u t : List ℕ) → g.size ≡ 0 → c ≤ g.size
    → groups_from g c (u ++ t) ≡ u ++ groups_from g c t
unfolding groups_from
without_groups g c [] t none fits = refl
without_groups g c (b ∷ u) t none fits =
    let more = without_groups g c u t none fits in
    let next : min (c + 1) g.size ≡ c = omega (arith, none, fits) in
    grind (arith, nat_tests, more, next, none)

-- a separator follows a full group, if the text goes on
pub after_group : (g : Groups) (t : List ℕ) → 0 < g.size → 0 < length t
    → groups_from g g.size t ≡ g.separator ∷ groups_from g 0 t
unfolding groups_from
after_group g [] h some = absurd (omega arith)
after_group g (b ∷ t) h some =
    let next : min (0 + 1) g.size ≡ 1 = omega (arith, h) in grind (arith, nat_tests, h, next)

-- the first `done` characters are written in groups, and then `count` more, which fit into the last group
pub more_in_group : (g : Groups) (first c : ℕ) (text : List ℕ) (done count : ℕ) (written : List ℕ)
    → ((rest : List ℕ) → 0 < length rest → groups_from g first (take done text ++ rest) ≡ written ++ groups_from g c rest)
    → 0 < count → done + count ≤ length text → c + count ≤ g.size
    → (out : List ℕ) → out ≡ written ++ take count (drop done text)
    → (rest : List ℕ) → groups_from g first (take (done + count) text ++ rest) ≡ out ++ groups_from g (c + count) rest
more_in_group g first c text done count written before some within h out put rest =
    let piece = take count (drop done text) in
    let size : length piece ≡ count = simp (length-take, length-drop) (omega arith) in
    let more = before (piece ++ rest) (omega (arith, size, length-append piece rest, some)) in
    let whole = within_group g c piece rest (omega (arith, size)) in
    rw (take-add done count text, append_assoc, more, whole, size, put, append_assoc) refl

-- the first `done` characters are written in groups, and then `count` more
pub puts_more : (g : Groups) (c d e : ℕ) (text : List ℕ) (done count : ℕ) (out new : List ℕ) (end m k : ℕ)
    → done ≤ length text → end ≤ length out → k ≤ length new
    → PutsInto g c (take done text) (take end out) d
    → PutsInto g d (take count (take (length text - done) (drop done text))) (take k new) e
    → PutsInto g c (take (done + count) text) (take (end + k) (put_mid end m out new)) e
puts_more g c d e text done count out new end m k within started enough first more rest =
    let piece = take count (drop done text) in
    let next =
    rw (take_all (length text - done) (drop done text) (omega (arith, length-drop done text))) at more rest in
    rw (
      take-add done count text,
      take_put end m k out new started enough,
      append_assoc,
      first (piece ++ rest),
      next,
      append_assoc,
    ) refl

-- a separator and then one group
pub puts_one : (g : Groups) (text out new : List ℕ) → 0 < g.size → g.size ≤ 16 → 16 ≤ length text → 17 ≤ length out
    → new ≡ take 16 text
    → PutsInto g g.size (take g.size text) (take (g.size + 1) (put_mid 1 16 (slice_set out 0 g.separator) new)) g.size
puts_one g text out new some short many space copied rest =
    let n = g.size in
    let s = g.separator in
    let size : length (take n text) ≡ n = length-take-le n text (omega (arith, short, many)) in
    let all : length new ≡ 16 = rw copied (length-take-le 16 text many) in
    let added : n + 1 ≡ 1 + n = omega arith in
    let end : 0 + length (take n text) ≡ n = omega (arith, size) in
    let put =
    take_put 1 16 n (slice_set out 0 s) new (omega (arith, length-set out 0 s, space)) (omega (arith, all, short)) in
    let front = take_more_set out 0 s (omega (arith, space)) in
    let same_front : take n new ≡ take n text = rw copied (take-take n 16 text short) in
    after_group g (take n text ++ rest) some (omega (arith, size, some, length-append (take n text) rest))
    ∙ ap (λ l. s ∷ l) (within_group g 0 (take n text) rest (omega (arith, size)))
    ∙ ap (λ k. s ∷ (take n text ++ groups_from g k rest)) end
    ∙ rw (added, put, front, same_front) refl

-- four groups of two, each after a separator
pub puts_pairs : (s : ℕ) (text rest : List ℕ) → 8 ≤ length text
    → groups_from (record { size = 2; separator = s }) 2 (take 8 text ++ rest)
    ≡ s ∷ get_or text 0 0 ∷ get_or text 1 0 ∷ s ∷ get_or text 2 0 ∷ get_or text 3 0 ∷ s ∷ get_or text 4 0
    ∷ get_or text 5 0 ∷ s ∷ get_or text 6 0 ∷ get_or text 7 0 ∷ groups_from (record { size = 2; separator = s }) 2 rest
unfolding groups_from
puts_pairs s (a ∷ b ∷ c ∷ d ∷ e ∷ f ∷ g ∷ h ∷ text) rest many = refl
puts_pairs s _ rest many = absurd (omega arith)

-- what holds anyway holds if a result is `Ok`
pub if_ok : {T E P : Type 0} (r : Result T E) → P → OnOk r P
if_ok r p = grind arith

-- what holds anyway holds if a result is `Err`
pub if_err : {T E P : Type 0} (r : Result T E) → P → OnErr r P
if_err r p = grind arith

-- a further chunk is encoded
pub encoded_more : (prefix up : Bool) (g : Groups) (old new : Stage) (x y chunk z : List ℕ)
    → HasEncoded prefix up g old x y
    → PutsInto g old.group_fill (full_text old.prefix up chunk) z new.group_fill → new.prefix ≡ false → new.group_fill ≤ g.size
    → HasEncoded prefix up g new (x ++ chunk) (y ++ z)
encoded_more prefix up g old new x y chunk z has breaks due fits = record {
  rest = λ more.
      let rest = full_text false up more in
      let text : full_text old.prefix up (chunk ++ more) ≡ full_text old.prefix up chunk ++ rest =
      rw (hex_text-append up chunk more) (sym (append_assoc (prefix_of old.prefix) (hex_text up chunk) rest)) in
      rw (due, append_assoc x chunk more, has.rest (chunk ++ more), text, breaks rest, append_assoc) refl;
  fits = fits;
}

-- an empty chunk ends the input
pub encoded_last : (prefix up : Bool) (g : Groups) (old new : Stage) (x y chunk z : List ℕ)
    → HasEncoded prefix up g old x y
    → PutsInto g old.group_fill (full_text old.prefix up chunk) z new.group_fill → new.prefix ≡ false → new.group_fill ≤ g.size
    → y ++ (z ++ last_newline g new.group_fill) ≡ encoded prefix up g (x ++ chunk)
unfolding groups_from
encoded_last prefix up g old new x y chunk z has breaks due fits =
    let more = encoded_more prefix up g old new x y chunk z has breaks due fits in
    sym (rw (append-nil, due, hex_text-nil, append_assoc y z) at (more.rest []))
