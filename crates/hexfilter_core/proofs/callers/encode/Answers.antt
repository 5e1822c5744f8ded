-- Proof of the open goal `returns`: the clauses of the contract hold at the return. `c` has the facts that are known
-- there: `c.F.ensures` is what the call of F ensures. `g` has the type parameters and their traits' members.
--
-- `x` is the input that was read, and `y` the output that was written for it: `read` and `wrote` are these facts, and
-- `end` is the fact that the reader is at its end.
--
-- Terms of the contracts:
-- - `full_text prefix upper bs`: the text of bs, after `0x` if `prefix` is true
-- - `groups_from g k t`: the text t in the groups g, if the first has k characters already
use Rattle.std.proofs.Common.{◌≡◌, ◌∙◌, [], ℕ, List, None, append-nil, arith, false, refl, sym}
use Rattle.hexfilter_core.proofs.lemmas.Groups.{without_groups}
use Rattle.hexfilter_core.proofs.lemmas.Runs.{ends_always, not_rejected}
use Rattle.hexfilter_core.specs.Dumps.{Groups, encoded, full_text, groups_from}
use Rattle.hexfilter_core.specs.Options.{with_arguments}
use Rattle.hexfilter_core.specs.Runs.{Encode, Mode}
use Rattle.hexfilter_core.proofs.callers.encode.Goals as goal

-- no groups and no lines
abbrev plain : Groups
plain = record { size = 0; separator = 10 }

-- then the output is the text
text : (x : List ℕ) → encoded false false plain x ≡ full_text false false x
unfolding groups_from
text x = simp append-nil at (without_groups plain 0 (full_text false false x) [] refl (omega arith))

pub returns : goal.returns
unfolding with_arguments
returns g c =
    let m : Mode = Encode false false plain in
    let ends = ends_always _ m _ _ _ _ _ (c.program.ensures.input m None (rw c.requires refl) refl) in record {
      done = λ zero.
          let (x, y, read, end, output_eq, wrote) = ends.0 zero in (x, read, end, rw (output_eq ∙ text x) at wrote);
      partly_written = λ three.
          let (x, y, read, (rest, output_eq), wrote) = ends.2 three in
          (x, y, rest, read, sym (text x) ∙ output_eq, wrote);
      statuses = not_rejected m _ _ _ _ _ ends
          (λ e location rejected. let (x, y, read, fails, wrote) = rejected in fails);
    }
