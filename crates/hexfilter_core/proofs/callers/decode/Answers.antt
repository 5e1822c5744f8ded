-- Proofs of open goals, named after their places: `returns` is the return at the end; `clause-X` is the clause X of the
-- contract. `c` has the facts that are known there: `c.F.ensures` is what the call of F ensures; `c.F.result` is its
-- result. `g` has the type parameters and their traits' members.
--
-- `x` is the input that was read, and `y` the output that was written for it: `read` and `wrote` are these facts, and
-- `end` is the fact that the reader is at its end.
--
-- Terms of the contracts:
-- - `DecodesTo t r`: the text t decodes to the result r
-- - `body_of t`: t without its prefix
-- - `Spells u bs`: the digits u decode to the bytes bs
use Rattle.std.proofs.Common.{◌∷◌, ◌++◌, ◌*◌, [], Ok, false, length, refl, take}
use Rattle.std.proofs.lemmas.Result.{on_err_weaker, on_ok_weaker}
use Rattle.hexfilter_core.proofs.lemmas.Texts.{text_plain}
use Rattle.hexfilter_core.specs.Dumps.{InvalidHexCharacter, IsOdd, OddLength, Reading, Spells, body_of}
use Rattle.hexfilter_core.specs.Runs.{DecodesTo}
use Rattle.hexfilter_core.proofs.callers.decode.Goals as goal

-- the options of decoding a text without groups
abbrev plain : Reading
plain = record { is_check = false; ignore_whitespace = false; groups = record { size = 0; separator = 32 } }

pub returns-clause-ok : goal.returns-clause-ok
returns-clause-ok g c =
    on_ok_weaker c.run.result (λ done.
    let (x, y, read, end, (bytes, reads, output_eq), wrote) = done in
    let same : DecodesTo x (Ok bytes) = rw (text_plain plain x refl) at reads in
    (x, y, read, end, rw output_eq same, wrote))
    c.run.ensures.ok

pub returns-clause-odd : goal.returns-clause-odd
returns-clause-odd g c = λ location result_eq.
    let (x, y, read, (bytes, fails, same), wrote) = c.run.ensures.text OddLength location result_eq in
    let odd : IsOdd (length x) = rw (text_plain plain x refl) at fails.2 in
    let pairs = rw (text_plain plain x refl) at fails.3 in
    (fails.0, (x, y, read, fails.1, odd, pairs.0, rw same pairs.1, wrote))

pub returns-clause-invalid : goal.returns-clause-invalid
returns-clause-invalid g c = λ b i location result_eq.
    let (x, y, read, (bytes, fails, same), wrote) = c.run.ensures.text (InvalidHexCharacter b i) location result_eq in
    let pairs = rw (text_plain plain fails.front refl) at fails.bytes in
    let no_digit = rw (text_plain plain (fails.front ++ b ∷ []) refl) at fails.invalid in (
      fails.located,
      (
        fails.front,
        fails.rest,
        y,
        rw fails.cut at read,
        fails.rest_is_short,
        fails.position,
        pairs.0,
        no_digit,
        rw same pairs.1,
        wrote,
      ),
    )

pub returns-clause-partly_written : goal.returns-clause-partly_written
returns-clause-partly_written g c =
    on_err_weaker c.run.result (λ part.
    let (x, y, read, (bytes, decodes, output_eq), wrote) = part in
    let partly_written : Spells (take (2 * length bytes) (body_of x)) bytes = rw (text_plain plain x refl) at decodes in
    (x, y, read, rw output_eq partly_written, wrote)) c.run.ensures.partly_written
