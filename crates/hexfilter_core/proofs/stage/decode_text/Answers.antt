-- Proofs of open goals, named after their places: `returns` is the return at the end; `in-V` is the arm V of a `match`;
-- `clause-X` is the clause X of the contract. `c` has the facts that are known there: `c.F.ensures` is what the call of
-- F ensures; `c.F.result` is its result; `F-x` is a call whose result is named x; `c.if-F` is the test of F.
use Rattle.std.proofs.Common.{arith, refl}
use Rattle.std.proofs.lemmas.Result.{IfOk-weaker}
use Rattle.const_hex_arch.proofs.lemmas.FirstInvalid.{digits_not_invalid}
use Rattle.hexfilter_core.proofs.stage.decode_text.Goals as goal

pub returns-in-Ok-clause-ok : goal.returns-in-Ok-clause-ok
returns-in-Ok-clause-ok c = λ t z has.
    let output = rw c.if-reading.true at has.output in
    record {
      bytes = _;
      read = (c.in-Ok.ensures.ok t has.bytes has.read).1;
      output = rw (c.if-reading.true, output) refl;
    }

pub returns-in-Err-clause-err : goal.returns-in-Err-clause-err
returns-in-Err-clause-err c =
    λ t z has space. grind (arith, digits_not_invalid, c.in-Err.ensures.outcome t has.bytes has.read)

pub returns-clause-ok : goal.returns-clause-ok
returns-clause-ok c = λ t z has.
    let output = rw c.if-reading.false at has.output in
    IfOk-weaker c.decode.result _ _
    (λ n read. record { bytes = _; read = read; output = rw (c.if-reading.false, output) refl })
    (c.decode.ensures.ok t has.bytes has.read)

pub returns-clause-err : goal.returns-clause-err
returns-clause-err c = λ t z has space.
    grind (arith, digits_not_invalid, c.decode.ensures.outcome t has.bytes has.read, c.decode.ensures.enough space)
