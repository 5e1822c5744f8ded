-- Proof of an open goal, named after its place: `returns` is a return; `in-V` is the arm V of a `match`; `clause-X` is
-- the clause X of the contract. `c` has the facts that are known there: `c.args` are the arguments; `c.F.ensures` is
-- what the call of F ensures; `c.F.result` is its result; `c.F.new` is what it has changed. `g` has the type parameters
-- and their traits' members.
use Rattle.std.proofs.Common.{◌≡◌, ◌∙◌, refl, sym, ap, subst, ℕ, ◌<◌, Bool, true, false, if◌then◌else◌, [], ◌∷◌, ◌++◌, Some, None, codes, decimal, arith, append_assoc}
use Rattle.std.specs.Char.{encode_utf8, is_ascii}
use Rattle.std.specs.Fmt.{DisplaysOnOk, debug_escape, ◌++?◌}
use Rattle.std.proofs.lemmas.Bool.Decides.{nat_tests}
use Rattle.std.proofs.lemmas.Fmt.{hex_one_digit, hex_two_digits}
use Rattle.const_hex.specs.Prelude.{shown, message_text, message_of, InvalidHexCharacter}
use Rattle.const_hex.proofs.error.FromHexErrorDisplay.fmt.Goals as goal

-- how the standard library's contract of `{:?}` shows an ASCII character
shown-ascii : (c : ℕ) → c < 128 → debug_escape 39 c ≡ shown c
unfolding debug_escape encode_utf8
shown-ascii c low = grind (arith, nat_tests, hex_one_digit, hex_two_digits)

-- what is printed of an invalid character
printed : (c i : ℕ) (t : Bool) → (t ≡ true → c < 128)
    → (Some (codes "invalid character ") ++? (if t then Some (39 ∷ (debug_escape 39 c ++ 39 ∷ [])) else None) ++? Some
    (codes " at position " ++ decimal i))
    ≡ (if t then Some (message_text (InvalidHexCharacter c i)) else None)
printed c i true low = rw (
  shown-ascii c (low refl),
  append_assoc (shown c) (39 ∷ []) (codes " at position " ++ decimal i),
  append_assoc (shown c) (codes "' at position ") (decimal i),
) refl
printed c i false low = refl

pub returns-in-InvalidHexCharacter-clause-writes : goal.returns-in-InvalidHexCharacter-clause-writes
returns-in-InvalidHexCharacter-clause-writes g c =
    let e = c.in-InvalidHexCharacter in
    subst (λ o. DisplaysOnOk g.W.Write.write_str_gives c.args.f.now c.write.result o c.write.new.self)
    (printed e.c e.index (is_ascii e.c) (λ h. grind (arith, nat_tests, h)) ∙ ap message_of (sym e.is))
    c.write.ensures.writes
