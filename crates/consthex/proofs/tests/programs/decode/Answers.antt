-- Proof of the open goal `returns`: the clauses of the contract hold at the return. `c` has the facts that are known
-- there: `c.F.ensures` is what the call of F ensures. `g` has the type parameters and their traits' members.
--
-- `x` is the input that was read, and `y` the output that was written for it: `read` and `wrote` are these facts, and
-- `end` is the fact that the reader is at its end.
--
-- Terms of the contracts:
-- - `DecodesTo t r`: the text t decodes to the result r
-- - `Appends before after bs`: bs was appended to what a writer holds
-- - `Consumes before after bs`: bs was read from what a reader has left
-- - `Keeps before after`: these bytes did not change
-- - `WritesBeginning before after bs`: a beginning of bs was appended
-- - `IsResultOfInput m in_before in_after r`: r is the result of the mode m for the input that was read, to its end
-- - `Ends m status ..`: a run in the mode m ended with this exit status
use Rattle.std.proofs.Common.{arith, ◌≡◌, ◌≢◌, ◌∷◌, ◌⊎◌, ◌∙◌, [], List, Ok, Option, ℕ, codes, inl, inr, refl, sym, take}
use Rattle.std.specs.Io.BufRead.{strip_last}
use Rattle.std.specs.Io.KnownBytes.{Appends, Consumes, Keeps}
use Rattle.const_hex.specs.Prelude.{DecodesTo, WritesBeginning}
use Rattle.consthex.specs.Program.{IsResultOfInput, Ends, word_of}
use Rattle.consthex.specs.declared.mode.Mode.{Mode}
use Rattle.consthex.specs.declared.mode.Mode.TheVariants.{Decode}
use Rattle.consthex.proofs.tests.programs.decode.Goals as goal

-- `decode` names the mode Decode alone
mode_is_decode : (words : List (List ℕ)) → words ≡ codes "decode" ∷ [] → (m : Mode) → words ≡ word_of m ∷ []
    → m ≡ Decode
mode_is_decode words is_decode Decode named = refl
mode_is_decode words is_decode _ named = grind (arith, sym is_decode ∙ named)

-- a run on these arguments ends as one in the mode Decode does
ends_decode : (words : List (List ℕ)) (status : ℕ)
    (in_before in_after out_before out_after : Option (List ℕ)) → words ≡ codes "decode" ∷ []
    → (status ≢ 2
    → (m : Mode) × (words ≡ word_of m ∷ []) × Ends m status in_before in_after out_before out_after)
    → status ≢ 2 → Ends Decode status in_before in_after out_before out_after
ends_decode words status in_before in_after out_before out_after is_decode ran not_two =
    let (m, named, ends) = ran not_two in rw (mode_is_decode words is_decode m named) at ends

-- after a failed read or write, nothing was written, or a beginning of the decoded bytes
partly_written : (in_before in_after out_before out_after : Option (List ℕ))
    → Keeps out_before out_after
    ⊎ ((bs : List ℕ) × IsResultOfInput Decode in_before in_after (Ok bs) × WritesBeginning out_before out_after bs)
    → Keeps out_before out_after
    ⊎ ((x : List ℕ) × (y : List ℕ) × (n : ℕ) × Consumes in_before in_after x × DecodesTo (strip_last 10 x) (Ok y)
    × Appends out_before out_after (take n y))
partly_written in_before in_after out_before out_after (inl unchanged) = inl unchanged
partly_written in_before in_after out_before out_after
    (inr (y, (x, (read, end), (small, reads)), (n, wrote))) = inr (x, y, n, read, reads, wrote)

pub returns : goal.returns
returns g c =
    let ends = ends_decode _ _ _ _ _ _ c.requires c.program_with.ensures.ran in record {
      done = λ zero.
          let (y, (x, (read, end), (small, reads)), wrote) = (ends (λ two. grind (arith, zero, two))).0 zero in
          (x, y, read, end, reads, wrote);
      rejected = λ one.
          let (e, (x, (read, end), (small, reads)), unchanged) = (ends (λ two. grind (arith, one, two))).1 one in
          (x, e, read, end, reads, unchanged);
      failed = λ three. partly_written _ _ _ _ ((ends (λ two. grind (arith, three, two))).2 three);
      memory = λ four. (ends (λ two. grind (arith, four, two))).3 four;
    }
