-- Proof of an open goal, named after its place: `F-requires` is what the call of F requires; `clause-X` is the clause X
-- of the contract. `c` has the facts that are known there. `g` has the type parameters and their traits' members.
--
-- Terms of the contracts:
-- - `mirror ignores g`: the options that decode a text in the groups g
-- - `IgnoresLines ignores g`: whitespace is ignored if g are lines
-- - `AreFor m arguments`: the arguments ask for the mode m
use Rattle.std.proofs.Common.{◌≡◌, ◌⊎◌, ◌∷◌, [], Bool, ℕ, List, codes, false, inl, inr, refl, true}
use Rattle.hexfilter_core.specs.Dumps.{Groups, IgnoresLines, mirror}
use Rattle.hexfilter_core.specs.Options.{AreFor, WritesGroups, is_separator}
use Rattle.hexfilter_core.specs.Runs.{Decode, Encode}
use Rattle.hexfilter_core.proofs.callers.encode_and_decode_by_words.Goals as goal

-- the arguments write lines, or groups of one byte, and decode them again
abbrev ArgumentsMatch : List (List ℕ) → List (List ℕ) → Type 0
ArgumentsMatch write read =
    (prefix : Bool) × (upper : Bool) × (ignores : Bool) × (g : Groups) × IgnoresLines ignores g
    × AreFor (Encode prefix upper g) write × AreFor (Decode (mirror ignores g)) read

-- both pairs of arguments that the contract names do so
arguments_match : (write read words : List (List ℕ))
    → words ≡ codes "--group" ∷ codes "1" ∷ codes "--separator" ∷ codes ":" ∷ []
    → ((write ≡ codes "--prefix" ∷ codes "--upper" ∷ codes "--wrap" ∷ codes "64" ∷ [])
    × (read ≡ codes "--decode" ∷ codes "--ignore-whitespace" ∷ []))
    ⊎ ((write ≡ words) × (read ≡ codes "--decode" ∷ words)) → ArgumentsMatch write read
unfolding is_separator
arguments_match write read words words_eq (inl (wrote, again)) = (
  true,
  true,
  true,
  record { size = 64; separator = 10 },
  λ h. refl,
  (_, inl (codes "64", refl, refl, refl), wrote),
  ([], inl (refl, refl), again),
)
arguments_match write read words words_eq (inr (wrote, again)) =
    let pairs : Groups = record { size = 2; separator = 58 } in
    let found : WritesGroups pairs words = (codes "1", 1, refl, refl, refl, words_eq) in
    (false, false, false, pairs, λ h. h, (words, inr (inr found), wrote), (words, inr found, again))

pub encode_and_decode-requires-clause-arguments : goal.encode_and_decode-requires-clause-arguments
encode_and_decode-requires-clause-arguments g c = arguments_match _ _ _ refl c.requires.words
