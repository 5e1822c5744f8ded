-- Proofs of open goals, named after their places: `returns` is a return; `in-V` is the arm V of a `match`. `c` has the
-- facts that are known there: `c.args` are the arguments; `c.F.ensures` is what the call of F ensures; `F-x` is a call
-- whose result is named x. `search` is a proof search.
--
-- Terms of the contracts:
-- - `text_of r x`: the input x without the bytes that are left out
use Rattle.std.proofs.Common.{rules, refl}
use Rattle.hexfilter_core.proofs.lemmas.Runs.{same_error}
use Rattle.hexfilter_core.proofs.lemmas.Texts.{pairs}
use Rattle.hexfilter_core.specs.Dumps.{text_of}
use Rattle.hexfilter_core.proofs.stage.Stage.finish.Goals as goal

pub returns-in-Ok : goal.returns-in-Ok
returns-in-Ok c = λ r x y in_after has end.
    let ok = c.in-Ok.ensures.ok (text_of r x) has.text.bytes has.text.read in search rules

pub returns-in-Err : goal.returns-in-Err
returns-in-Err c = λ r x y in_after has end.
    let bytes = has.text.bytes in
    let ensured = c.in-Err.ensures.err (text_of r x) bytes has.text.read in
    let odd = (c.in-Err.ensures.odd (text_of r x) bytes has.text.read).0 ensured in
    rw (same_error _ _ ensured)
    (bytes, (refl, end, odd, pairs r c.args.self.now.decoder x bytes has.text.read), has.text.output)
