-- Proof of the open goal `returns`: the clauses of the contract hold at the return. `c` has the facts that are known
-- there: `c.F.ensures` is what the call of F ensures. `g` has the type parameters and their traits' members.
use Rattle.std.proofs.Common.{◌≡◌, ◌⊎◌, ◌∷◌, [], ℕ, List, Ok, codes, inl, inr, refl}
use Rattle.hexfilter_core.specs.Options.{Version, request_for, with_arguments, with_letters}
use Rattle.hexfilter_core.proofs.callers.print_version.Goals as goal

-- these arguments ask for the version
is_version : (words : List (List ℕ)) → (words ≡ codes "--version" ∷ []) ⊎ (words ≡ codes "-V" ∷ [])
    → request_for words ≡ Ok Version
unfolding with_arguments with_letters
is_version words (inl words_eq) = rw words_eq refl
is_version words (inr words_eq) = rw words_eq refl

pub returns : goal.returns
returns g c =
    let (done, failed, statuses) = (c.program.ensures.version (is_version _ c.requires)).1 in
    record { done = done; failed = failed; statuses = statuses }
