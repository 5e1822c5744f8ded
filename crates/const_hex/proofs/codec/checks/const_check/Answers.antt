-- Proofs of open goals, named after their places: `returns` is the return at the end; `then-F` is the `then` branch of
-- the `if` that tests F. `c` has the facts that are known there: `c.args` are the arguments; `c.F.ensures` is what the
-- call of F ensures; `c.F.result` is its result; `F-x` is a call whose result is named x; `c.if-F` is the test of F.
--
-- Terms of the contracts:
-- - `body_of t`: t without its prefix
use Rattle.std.proofs.Common.{◌≡◌, ◌+◌, ◌-◌, length, Ok, arith}
use Rattle.const_hex.specs.Prelude.{body_of}
use Rattle.const_hex.proofs.lemmas.Decoding.{body-shorter}
use Rattle.const_hex.proofs.lemmas.Reading.{DecodesTo-digits, ChecksText-from_Checks}
use Rattle.const_hex.proofs.codec.checks.const_check.Goals as goal

pub returns-then-index-body : goal.returns-then-index-body
returns-then-index-body c =
    let t = c.args.input.now in
    let found = c.find_first_invalid_from-byte.ensures in
    let p = c.find_first_invalid_from-byte.result.1 in
    let body = c.strip_prefix-body.ensures.body in
    let invalid = found.invalid (λ all. absurd (omega (arith, found.all.1 all, c.if-index-body.true))) in
    let at : p + length t - length (body_of t) ≡ p + (length t - length (body_of t)) = omega (arith, body-shorter t) in
    ChecksText-from_Checks t _
    (rw c.invalid_character.ensures (
      omega (arith, c.if-input-ne0.false),
      (p, rw (← body) invalid, rw (← body) found.byte, rw body at),
    ))

pub returns : goal.returns
returns c =
    let found = c.find_first_invalid_from-byte.ensures in
    ChecksText-from_Checks c.args.input.now (Ok tt)
    (DecodesTo-digits c.args.input.now (omega (arith, c.if-input-ne0.false))
    (rw (← c.strip_prefix-body.ensures.body) (found.all.0 (omega (arith, found.within, c.if-index-body.false)))))
