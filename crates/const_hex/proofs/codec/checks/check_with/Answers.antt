-- Proofs of open goals, named after their places: `returns` is a return; `then-F` is the `then` branch of the `if` that
-- tests F; `else-F` is its `else` branch. `c` has the facts that are known there: `c.args` are the arguments;
-- `c.F.ensures` is what the call of F ensures; `in_ok-F` is F, where `?` goes on after it; `c.if-F` is the test of F.
-- `g` has the type parameters and their traits' members. `search` is a proof search.
use Rattle.std.proofs.Common.{Ok, rules}
use Rattle.const_hex.proofs.lemmas.Reading.{DecodesTo-digits, ChecksText-from_Checks}
use Rattle.const_hex.proofs.codec.checks.check_with.Goals as goal

pub returns-then-check : goal.returns-then-check
returns-then-check g c =
    ChecksText-from_Checks c.args.input.now (Ok tt)
    (DecodesTo-digits c.args.input.now c.in_ok-body.ensures.even.0
    (rw (← c.in_ok-body.ensures.body) (c.check.ensures.0 c.if-check.true)))

pub returns-else-check : goal.returns-else-check
returns-else-check g c = ChecksText-from_Checks c.args.input.now _ (search rules)
