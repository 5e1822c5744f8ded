-- Parsing numbers and short options, and parsing the arguments for a mode.
--
-- `o` are the options so far, `t` are the short options of an argument, `v` is the value of an option, `xs` are the
-- arguments, and `i` is the index of one. Hypotheses whose names end in `_eq` are equations. In a proof, the letters
-- that its statement does not name are the hypotheses, in order.
use Rattle.std.proofs.Common.{◌≡◌, ◌∙◌, ap, sym, map, inl, inr, ◌⊎◌, None, ℕ, ◌+◌, ◌<◌, ◌≤◌, ◌==◌, ◌^◌, ◌&&◌, nat_lt, Bool, true, false, if◌then◌else◌, List, [], ◌∷◌, length, get_or, slice_index, take, drop, Result, Ok, Err, refl, arith, is_some, OkIff}
use Rattle.std.proofs.lemmas.Bool.Decides.{nat_tests}
use Rattle.std.specs.Str.{IsCharBoundary, IsUtf8, all_ascii_digits}
use Rattle.std.specs.Str.Parse.{ParsesUnsigned, digits_value}
use Rattle.std.proofs.lemmas.List.{drop_all, drop_more, get_or-map, length-map}
use Rattle.std.proofs.lemmas.Str.{IsCharBoundary-after_ascii}
use Rattle.std.proofs.lemmas.Str.Parse.{numerals_by_value, parse_plain, tells_all_ascii_digits}
use Rattle.hexfilter_core.specs.Options.{AreFor, AsksFor, InvalidNumber, IsPlain, Options, Run, UnknownOption, UsageErrorKind, WritesGroups, and_then, arguments_of, at_argument, find_option, number, request, request_for, option_table, with_argument, with_arguments, with_letters, with_value}
use Rattle.hexfilter_core.specs.Dumps.{Groups}
use Rattle.hexfilter_core.specs.Runs.{Decode, Encode, Mode}

-- the result of `parse` as that of `number`
abbrev pub as_number : {E : Type 0} → Result ℕ E → Result ℕ UsageErrorKind
as_number (Ok n) = Ok n
as_number (Err e) = Err InvalidNumber

-- the tests of `number`, if `parse` accepts exactly what passes them
number_result : {E : Type 0} (a : Bool) (n v m : ℕ) (r : Result ℕ E) → OkIff r ((a ≡ true) × (0 < n) × (v < m)) v
    → (if nat_lt 0 n && a && nat_lt v m then Ok v else Err InvalidNumber) ≡ as_number r
number_result a n v m r h = grind (arith, nat_tests)

-- the result of `parse` for a text without a plus sign at its start
pub parsed_number : {E : Type 0} (v : List ℕ) (r : Result ℕ E) → ParsesUnsigned 64 10 v r → (slice_index v 0 == 43) ≡ false
    → number v ≡ as_number r
parsed_number v r h plain =
    let own = numerals_by_value (λ ds. all_ascii_digits ds ≡ true) tells_all_ascii_digits in
    number_result (all_ascii_digits v) (length v) (digits_value 10 v) (2 ^ 64) r
    (parse_plain own 64 v r h (grind (arith, nat_tests)))

-- the first of some short options, and the rest of them
pub first_letter : (o : Options) (t first rest : List ℕ) (found : Result Options UsageErrorKind) → 0 < length t
    → first ≡ take 1 t → rest ≡ drop 1 t → found ≡ find_option first (option_table o)
    → with_letters o t ≡ and_then found
    (λ p. if is_some p.value && nat_lt 0 (length rest) then with_value p.value p rest else with_letters p rest)
unfolding with_letters
first_letter o [] first rest found nonempty first_eq rest_eq found_eq = absurd (omega arith)
first_letter o (c ∷ t) first rest found nonempty first_eq rest_eq found_eq = rw (found_eq, first_eq, rest_eq) refl

-- a character that is not ASCII is an unknown option
pub unknown_letter : (o : Options) (t : List ℕ) → IsUtf8 t → 0 < length t → ¬ (IsCharBoundary t 1)
    → with_letters o t ≡ Err UnknownOption
unfolding with_letters
unknown_letter o [] utf8 h inside = absurd (omega arith)
unknown_letter o (c ∷ t) utf8 h inside =
    let high : 128 ≤ c = grind (arith, nat_tests, inside, IsCharBoundary-after_ascii (c ∷ t) 0 utf8 h) in
    let none : find_option (c ∷ []) (option_table o) ≡ Err UnknownOption = grind (arith, nat_tests, high) in
    rw none refl

-- no short option is left
pub no_letter : (o : Options) (t : List ℕ) → length t ≡ 0 → with_letters o t ≡ Ok o
unfolding with_letters
no_letter o [] h = refl
no_letter o (c ∷ t) h = absurd (omega arith)

-- the argument x, which has the index i
pub next_argument : {X : Type 0} (bytes : X → List ℕ) (xs : List X) (i : ℕ) (o : Options)
    (found : Result Options UsageErrorKind) (x : X) (a : List ℕ)
    → i < length xs → x ≡ get_or xs i x → a ≡ bytes x → found ≡ with_argument o i a
    → with_arguments o i (drop i (map bytes xs)) ≡ at_argument i found
    (λ p. with_arguments p (i + 1) (drop (i + 1) (map bytes xs)))
unfolding with_arguments
next_argument bytes xs i o found x a inside x_eq a_eq found_eq =
    rw (
      drop_more (map bytes xs) i a (rw (length-map xs bytes) inside),
      get_or-map bytes xs i x a inside ∙ ap bytes (sym x_eq) ∙ sym a_eq,
      found_eq,
    ) refl

-- no argument is left
pub no_argument : {X : Type 0} (bytes : X → List ℕ) (xs : List X) (i : ℕ) (o : Options) → length xs ≤ i
    → with_arguments o i (drop i (map bytes xs)) ≡ request o i
unfolding with_arguments
no_argument bytes xs i o h =
    let all : length (map bytes xs) ≤ i = rw (length-map xs bytes) h in rw (drop_all i (map bytes xs) all) refl

-- ---- the arguments for a mode are parsed as this mode

-- the arguments of a mode that decodes
read_back_decode : (check ignores : Bool) (g : Groups) (words : List (List ℕ)) → IsPlain g words ⊎ WritesGroups g words
    → let m : Mode = Decode (record { is_check = check; ignore_whitespace = ignores; groups = g }) in
    request_for (arguments_of m words) ≡ Ok (Run m None)
unfolding with_arguments
read_back_decode true true g words (inl (words_eq, groups_eq)) = rw (words_eq, groups_eq) refl
read_back_decode true true g words (inr (v, n, number_eq, size_eq, separator_valid, words_eq)) =
    rw (words_eq, number_eq, separator_valid, ← size_eq) refl
read_back_decode false true g words (inl (words_eq, groups_eq)) = rw (words_eq, groups_eq) refl
read_back_decode false true g words (inr (v, n, number_eq, size_eq, separator_valid, words_eq)) =
    rw (words_eq, number_eq, separator_valid, ← size_eq) refl
read_back_decode _ _ g words (inl (words_eq, groups_eq)) = rw (words_eq, groups_eq) refl
read_back_decode _ _ g words (inr (v, n, number_eq, size_eq, separator_valid, words_eq)) =
    rw (words_eq, number_eq, separator_valid, ← size_eq) refl

-- the arguments of any mode
pub read_back : (m : Mode) (words : List (List ℕ)) → AsksFor m words
    → request_for (arguments_of m words) ≡ Ok (Run m None)
unfolding with_arguments
read_back (Encode true true g) words (inl (v, number_eq, newline, words_eq)) = rw (words_eq, number_eq, ← newline) refl
read_back (Encode true true g) words (inr (inl (words_eq, groups_eq))) = rw (words_eq, groups_eq) refl
read_back (Encode true true g) words (inr (inr (v, n, number_eq, size_eq, separator_valid, words_eq))) =
    rw (words_eq, number_eq, separator_valid, ← size_eq) refl
read_back (Encode false true g) words (inl (v, number_eq, newline, words_eq)) = rw (words_eq, number_eq, ← newline) refl
read_back (Encode false true g) words (inr (inl (words_eq, groups_eq))) = rw (words_eq, groups_eq) refl
read_back (Encode false true g) words (inr (inr (v, n, number_eq, size_eq, separator_valid, words_eq))) =
    rw (words_eq, number_eq, separator_valid, ← size_eq) refl
read_back (Encode _ _ g) words (inl (v, number_eq, newline, words_eq)) = rw (words_eq, number_eq, ← newline) refl
read_back (Encode _ _ g) words (inr (inl (words_eq, groups_eq))) = rw (words_eq, groups_eq) refl
read_back (Encode _ _ g) words (inr (inr (v, n, number_eq, size_eq, separator_valid, words_eq))) =
    rw (words_eq, number_eq, separator_valid, ← size_eq) refl
read_back (Decode r) words h = read_back_decode r.is_check r.ignore_whitespace r.groups words h

-- the same for arguments that ask for the mode
pub request_for_arguments : (m : Mode) (arguments : List (List ℕ)) → AreFor m arguments
    → request_for arguments ≡ Ok (Run m None)
request_for_arguments m arguments (words, asks, arguments_eq) = rw arguments_eq (read_back m words asks)
