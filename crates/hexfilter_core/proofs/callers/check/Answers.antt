-- Proof of the open goal `returns`: the clauses of the contract hold at the return. `c` has the facts that are known
-- there: `c.F.ensures` is what the call of F ensures; `c.F.new` is what it has changed. `g` has the type parameters and
-- their traits' members.
--
-- `x` is the input that was read, and `y` the output that was written for it: `read` and `wrote` are these facts, and
-- `end` is the fact that the reader is at its end.
--
-- Terms of the contracts:
-- - `DecodesTo t r`: the text t decodes to the result r
-- - `Appends before after bs`: bs was appended to what a writer holds
-- - `Consumes before after bs`: bs was read from what a reader has left
-- - `Keeps before after`: these bytes did not change
use Rattle.std.proofs.Common.{◌≡◌, ◌∙◌, ◌++◌, [], ℕ, List, None, Option, Some, Ok, ap, append-nil, inl, inr, refl, subst, true, false}
use Rattle.std.specs.Io.KnownBytes.{Appends, Consumes, Keeps}
use Rattle.hexfilter_core.proofs.lemmas.Mirror.{not_decoded}
use Rattle.hexfilter_core.proofs.lemmas.Runs.{ends_always}
use Rattle.hexfilter_core.proofs.lemmas.Texts.{text_plain}
use Rattle.hexfilter_core.specs.Dumps.{Reading}
use Rattle.hexfilter_core.specs.Options.{with_arguments}
use Rattle.hexfilter_core.specs.Runs.{Decode, Ends, DecodesTo}
use Rattle.hexfilter_core.proofs.callers.check.Goals as goal

-- the options of `--check` alone
abbrev plain : Reading
plain = record { is_check = true; ignore_whitespace = false; groups = record { size = 0; separator = 10 } }

-- a writer that got no bytes holds what it held
nothing_written : (out_before out_after : Option (List ℕ)) (y : List ℕ) → y ≡ [] → Appends out_before out_after y
    → Keeps out_before out_after
nothing_written None out_after y none wrote = tt
nothing_written (Some x) None y none wrote = absurd wrote
nothing_written (Some x) (Some z) y none wrote = wrote ∙ ap (λ l. x ++ l) none ∙ append-nil x

-- a run that only checks writes nothing, whatever its exit status
check_writes_nothing : (status : ℕ) (in_before in_after out_before out_after : Option (List ℕ))
    → Ends (Decode plain) status in_before in_after out_before out_after → Keeps out_before out_after
check_writes_nothing status in_before in_after out_before out_after (done, text, partly_written, inl zero) =
    let (x, y, read, end, (bytes, reads, output_eq), wrote) = done zero in
    nothing_written out_before out_after y output_eq wrote
check_writes_nothing status in_before in_after out_before out_after (done, text, partly_written, inr (inl one)) =
    let (e, location, (x, y, read, (bytes, fails, output_eq), wrote)) = text one in
    nothing_written out_before out_after y output_eq wrote
check_writes_nothing status in_before in_after out_before out_after (done, text, partly_written, inr (inr three)) =
    let (x, y, read, (bytes, decodes, output_eq), wrote) = partly_written three in
    nothing_written out_before out_after y output_eq wrote

pub returns : goal.returns
unfolding with_arguments
returns g c =
    let ends = ends_always _ (Decode plain) _ _ _ _ _
    (c.program.ensures.input (Decode plain) None (rw c.requires refl) refl) in record {
      done = λ zero.
          let (x, y, read, end, (bytes, reads, output_eq), wrote) = ends.0 zero in
          let same : DecodesTo x (Ok bytes) = rw (text_plain plain x refl) at reads in (x, bytes, read, end, same);
      rejected = λ x y remaining_eq reads one.
          let (e, location, (z, w, read, (bytes, fails, same), wrote)) = ends.1 one in
          let in_after = g.R.Read.remaining c.program.new.input in
          not_decoded plain x in_after z bytes y e location
          (subst (λ (in_before : Option (List ℕ)). Consumes in_before in_after z) remaining_eq read)
          fails (rw (text_plain plain x refl) reads);
      nothing_written = check_writes_nothing _ _ _ _ _ ends;
    }
