-- Proofs of open goals, named after their places: `returns` is the return at the end; `then-F` is the `then` branch of
-- the `if` that tests F; `clause-X` is the clause X of the contract. `c` has the facts that are known there: `c.args`
-- are the arguments; `c.F.ensures` is what the call of F ensures; `c.F.result` is its result; `c.F.new` is what it has
-- changed; `F-x` is a call whose result is named x; `c.if-F` is the test of F.
--
-- `x` is the input that was read, `y` is the output that was written for it, and `has` is the fact that they match the
-- state.
--
-- Terms of the contracts:
-- - `text_of r x`: the input x without the bytes that are left out
use Rattle.std.proofs.Common.{arith, length-take, refl}
use Rattle.std.proofs.lemmas.Result.{IfOk-weaker}
use Rattle.hexfilter_core.proofs.lemmas.Texts.{decoded_more, plain_added}
use Rattle.hexfilter_core.specs.Dumps.{text_of}
use Rattle.hexfilter_core.proofs.stage.Stage.decode_part.Goals as goal

pub returns-then-leaves_out-clause-ok : goal.returns-then-leaves_out-clause-ok
returns-then-leaves_out-clause-ok c = λ x y has.
    IfOk-weaker c.decode_text.result _ _
    (λ n wrote.
    decoded_more _ _ _ _ x _ _ y _ has (c.scan-count.ensures.added x has.scanned) wrote refl
    c.saturating_add-self.ensures)
    (c.decode_text.ensures.ok (text_of c.args.reading x) y has.text)

pub returns-then-leaves_out-clause-err : goal.returns-then-leaves_out-clause-err
returns-then-leaves_out-clause-err c = λ x y has space.
    rw (c.scan-count.ensures.added x has.scanned).text
    (c.decode_text.ensures.err (text_of c.args.reading x) y has.text
    (omega (arith, space, c.scan-count.ensures.within, length-take c.scan-count.result c.scan-count.new.output)))

pub returns-clause-ok : goal.returns-clause-ok
returns-clause-ok c = λ x y has.
    let none = rw c.leaves_out.ensures at c.if-leaves_out.false in
    let more = plain_added c.args.reading _ x c.args.part.now none has.scanned in
    IfOk-weaker c.decode_text-2.result _ _
    (λ n wrote. decoded_more _ _ _ _ x _ _ y _ has more wrote refl c.saturating_add-self.ensures)
    (c.decode_text-2.ensures.ok (text_of c.args.reading x) y has.text)

pub returns-clause-err : goal.returns-clause-err
returns-clause-err c = λ x y has space.
    let none = rw c.leaves_out.ensures at c.if-leaves_out.false in
    rw (plain_added c.args.reading _ x c.args.part.now none has.scanned).text
    (c.decode_text-2.ensures.err (text_of c.args.reading x) y has.text (omega (arith, space)))
