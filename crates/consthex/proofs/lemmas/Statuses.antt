-- What an exit status says about a run.
use Rattle.std.proofs.Common.{◌≡◌, ◌≢◌, ℕ, List, Result, Ok, Err, OnErr, arith, Option}
use Rattle.std.specs.Io.KnownBytes.{Keeps}
use Rattle.const_hex.specs.declared.error.FromHexError.{FromHexError}
use Rattle.const_hex.specs.Prelude.{WritesBeginning}
use Rattle.consthex.specs.Program.{status_of, IsResultOfInput, Ends}
use Rattle.consthex.specs.declared.mode.Mode.{Mode}
use Rattle.consthex.specs.declared.error.RunError.{RunError}
use Rattle.consthex.specs.declared.error.RunError.TheVariants.{Text, WriteFailed}

-- a run that failed with an error ends with the error's status
pub ends_failed : (m : Mode) (r : Result Unit RunError) (e : RunError)
    (in_before in_after out_before out_after : Option (List ℕ)) → r ≡ Err e
    → ((f : FromHexError) → r ≡ Err (Text f) → IsResultOfInput m in_before in_after (Err (Text f)))
    → (r ≡ Err WriteFailed
    → (bs : List ℕ) × IsResultOfInput m in_before in_after (Ok bs) × WritesBeginning out_before out_after bs)
    → OnErr r (r ≢ Err WriteFailed → Keeps out_before out_after)
    → Ends m (status_of e) in_before in_after out_before out_after
ends_failed m r e in_before in_after out_before out_after has_failed text partly_written unchanged =
    grind arith
