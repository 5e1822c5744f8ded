-- What results and exit statuses tell about runs.
--
-- `m` is the mode, and `r` the result of a run. `in_before` and `in_after` are the bytes that the reader still has
-- before and after the run, and `out_before` and `out_after` those that the writer holds. The exit status is 0 at the
-- end of the input, 1 at an error of the text, and 3 if a read or a write failed.
use Rattle.std.proofs.Common.{rules, ◌≡◌, ◌⊎◌, ◌++◌, ◌∙◌, ℕ, List, Option, Some, Result, Err, ap, refl, inl, inr, [], Bool, true, false, arith, OnErr, IfErr, OnOk}
use Rattle.hexfilter_core.specs.Dumps.{FromHexError, Groups, Location, encoded, text_from}
use Rattle.hexfilter_core.specs.Runs.{Mode, RunError, Text, Decode, Encode, Ends, EndsIf, IsFailedWrite, OutputsBeginning, RunsPartly, RunsToEnd, RunsToError, status_of}
use Rattle.std.proofs.KnownBytes.{Appends-nil, Consumes-all, Consumes-nil}

-- equal results have equal errors
pub same_error : {V E : Type 0} (f g : E) → ◌≡◌ {A = Result V E} (Err f) (Err g) → f ≡ g
same_error f g eq = cc

-- the contract of a run, by its exit status
pub ends : (m : Mode) (in_before in_after out_before out_after : Option (List ℕ)) (r : Result Unit RunError)
    → OnOk r (RunsToEnd m in_before in_after out_before out_after)
    → ((e : FromHexError) (location : Option Location) → r ≡ Err (Text e location)
    → RunsToError m in_before in_after out_before out_after e location)
    → OnErr r (RunsPartly m in_before in_after out_before out_after)
    → Ends m (status_of r) in_before in_after out_before out_after
ends m in_before in_after out_before out_after (Err (Text e location)) done text partly_written =
    (search rules, λ h. (e, location, text e location refl), search rules, inr (inl refl))
ends m in_before in_after out_before out_after r done text partly_written = search rules

-- after a failed write the exit status is 3
pub failed : {P : Type 0} (r : Result Unit RunError) → IfErr r IsFailedWrite → P → OnErr r ((status_of r ≡ 3) × P)
failed r failed_write p = grind arith

-- the empty output is a beginning of the output for an empty input
empty_output : (m : Mode) → OutputsBeginning m [] []
unfolding text_from
empty_output (Encode prefix upper g) = (_, refl)
empty_output (Decode r) = ([], tt, grind arith)

-- a run that may not begin ends as a run may
pub ends_always : (b : Bool) (m : Mode) (status : ℕ) (in_before in_after out_before out_after : Option (List ℕ))
    → EndsIf b m status in_before in_after out_before out_after → Ends m status in_before in_after out_before out_after
ends_always true m status in_before in_after out_before out_after h = h
ends_always false m status in_before in_after out_before out_after (three, read, wrote) =
    let none : RunsPartly m in_before in_after out_before out_after =
    ([], [], rw read (Consumes-nil in_before), empty_output m, rw wrote (Appends-nil out_before)) in
    search rules

-- a run whose text has no error ends with 0 or 3
pub not_rejected : (m : Mode) (status : ℕ) (in_before in_after out_before out_after : Option (List ℕ))
    → Ends m status in_before in_after out_before out_after
    → ((e : FromHexError) (location : Option Location)
    → RunsToError m in_before in_after out_before out_after e location → ⊥)
    → (status ≡ 0) ⊎ (status ≡ 3)
not_rejected m status in_before in_after out_before out_after (done, text, partly_written, inl zero) never = inl zero
not_rejected m status in_before in_after out_before out_after (done, text, partly_written, inr (inl one)) never =
    let (e, location, rejected) = text one in absurd (never e location rejected)
not_rejected m status in_before in_after out_before out_after (done, text, partly_written, inr (inr three)) never =
    inr three

-- the text that a complete run has written for the bytes
pub text_written : (prefix up : Bool) (g : Groups) (bytes in_after out_before out_after : List ℕ) → out_before ≡ []
    → RunsToEnd (Encode prefix up g) (Some bytes) (Some in_after) (Some out_before) (Some out_after)
    → out_after ≡ encoded prefix up g bytes
text_written prefix up g bytes in_after out_before out_after none (x, y, read, end, output_eq, wrote) =
    wrote ∙ ap (λ l. l ++ y) none ∙ output_eq
    ∙ ap (encoded prefix up g) (Consumes-all (Some bytes) (Some in_after) x [] x read end refl)
