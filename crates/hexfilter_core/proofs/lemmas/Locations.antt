-- The line and column after parts of an input.
--
-- `p` is a location, `x` is the input before it, and `u` are the bytes that follow. 10 is a newline. In a proof, the
-- letters that its statement does not name are the hypotheses, in order.
use Rattle.std.proofs.Common.{◌≡◌, ◌≢◌, ℕ, ◌+◌, ◌%◌, ◌^◌, ◌-◌, ◌<◌, ◌≤◌, ◌==◌, cond, count_by, if◌then◌else◌, List, [], ◌∷◌, ◌++◌, length, refl, sym, ap, ◌∙◌, arith, length-append, All}
use Rattle.std.proofs.lemmas.Bool.Decides.{nat_tests}
use Rattle.std.proofs.lemmas.List.Elements.{All-head, All-tail}
use Rattle.std.proofs.lemmas.List.Sums.{sum_by-cons}
use Rattle.hexfilter_core.specs.Dumps.{IsLocation, Location, location_after_input, location_after}

-- the location of the first byte
abbrev start : Location
start = record { line = 1; column = 1 }

-- the location after one byte
abbrev location_after_byte : Location → ℕ → Location
location_after_byte p b =
    record { line = if b == 10 then p.line + 1 else p.line; column = if b == 10 then 1 else p.column + 1 }

-- the location after two parts of an input
location_after-append : (p : Location) (x y : List ℕ)
    → location_after p (x ++ y) ≡ location_after (location_after p x) y
unfolding location_after
location_after-append p [] y = refl
location_after-append p (b ∷ x) y = location_after-append (location_after_byte p b) x y

-- neither the line nor the column grows faster than the input
location_bounds : (p : Location) (x : List ℕ) → 1 ≤ p.column
    → ((location_after p x).line ≤ p.line + length x) × ((location_after p x).column ≤ p.column + length x)
unfolding location_after
location_bounds p [] h = (omega arith, omega arith)
location_bounds p (b ∷ x) h =
    let rest = location_bounds (location_after_byte p b) x (grind arith) in
    (grind (arith, rest), grind (arith, rest))

-- bytes without a newline only advance the column
location_after_line_part : (p : Location) (x : List ℕ) → All (λ b. b ≢ 10) x
    → ((location_after p x).line ≡ p.line) × ((location_after p x).column ≡ p.column + length x)
unfolding location_after
location_after_line_part p [] h = (refl, omega arith)
location_after_line_part p (b ∷ x) h =
    let other = All-head (λ b. b ≢ 10) b x h in
    let rest = location_after_line_part (location_after_byte p b) x (All-tail (λ b. b ≢ 10) b x h) in
    (grind (arith, nat_tests, other, rest), grind (arith, nat_tests, other, rest))

-- the location after a run without a newline
pub location_after_run : (x u : List ℕ) (p : Location) (count column : ℕ) → IsLocation x p → length u ≡ count
    → All (λ b. b ≢ 10) u → column ≡ (p.column + count) % 2 ^ 64
    → IsLocation (x ++ u) (record { line = p.line; column = column })
location_after_run x u p count column located size plain e = λ short.
    let before = located (omega (arith, short, length-append x u)) in
    let more = location_after_line_part (location_after_input x) u plain in
    let few = (location_bounds start x (omega arith)).1 in
    rw (location_after-append start x u)
    (before.0 ∙ sym more.0, omega (arith, more.1, before.1, e, size, few, short, length-append x u))

-- the location after a newline
pub location_after_newline : (x : List ℕ) (p : Location) (line : ℕ) → IsLocation x p → line ≡ (p.line + 1) % 2 ^ 64
    → IsLocation (x ++ 10 ∷ []) (record { line = line; column = 1 })
unfolding location_after
location_after_newline x p line located e = λ short.
    let size = length-append x (10 ∷ []) in
    let before = located (omega (arith, short, size)) in
    let few = (location_bounds start x (omega arith)).0 in
    rw (location_after-append start x (10 ∷ []))
    (omega (arith, short, e, before.0, few, size), refl)

-- the line advances by one for each newline
line_from_newlines : (p : Location) (x : List ℕ) → (location_after p x).line ≡ p.line + count_by (λ b. b == 10) x
unfolding location_after
line_from_newlines p [] = omega arith
line_from_newlines p (b ∷ x) =
    let rest = line_from_newlines (location_after_byte p b) x in
    let count = sum_by-cons (λ b. cond (b == 10) 1 0) b x in grind (arith, nat_tests, rest, count)

-- the location after a newline and a part of the next line
pub location_in_line : (x lines line : List ℕ) (p : Location) → IsLocation x p → x ≡ lines ++ 10 ∷ line
    → length x < 2 ^ 64 - 1 → All (λ b. b ≢ 10) line
    → (p.line ≡ 2 + count_by (λ b. b == 10) lines) × (p.column ≡ 1 + length line)
unfolding location_after
location_in_line x lines line p located cut short plain =
    let here = located short in
    let whole : location_after_input x ≡ location_after (location_after_byte (location_after_input lines) 10) line =
    ap (location_after start) cut ∙ location_after-append start lines (10 ∷ line) in
    let last = location_after_line_part (location_after_byte (location_after_input lines) 10) line plain in (
      here.0 ∙ ap (λ q. q.line) whole ∙ omega (arith, last.0, line_from_newlines start lines),
      here.1 ∙ ap (λ q. q.column) whole ∙ omega (arith, last.1),
    )
