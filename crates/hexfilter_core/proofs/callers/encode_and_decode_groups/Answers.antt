-- Proof of the open goal `returns`: the clauses of the contract hold at the return. `c` has the facts that are known
-- there: `c.args` are the arguments; `c.F.ensures` is what the call of F ensures; `c.F.result` is its result; `c.F.new`
-- is what it has changed; `in_ok-F` is F, where `?` goes on after it; `F-x` is a call whose result is named x. `g` has
-- the type parameters and their traits' members.
--
-- Terms of the contracts:
-- - `RunsToEnd m ..`: the whole input was read, and the mode's output for it written
use Rattle.std.proofs.Common.{arith, ◌∙◌, Some}
use Rattle.std.proofs.lemmas.Result.{on_ok_weaker}
use Rattle.const_hex.specs.Prelude.{AreBytes}
use Rattle.hexfilter_core.specs.Runs.{Encode, RunsToEnd}
use Rattle.hexfilter_core.proofs.lemmas.Mirror.{decoded_again, never_rejected}
use Rattle.hexfilter_core.proofs.lemmas.Runs.{text_written}
use Rattle.hexfilter_core.proofs.callers.encode_and_decode_groups.Goals as goal

pub returns : goal.returns
returns g c =
    let (prefix, up, ignores, groups, lines, write, read) = c.requires.modes in
    let bytes = c.args.bytes.now in
    let are : AreBytes bytes = λ k. let fits = c.type_inv.bytes k in omega (arith, fits) in
    let first : RunsToEnd (Encode prefix up groups) (Some bytes) (Some c.run.new.input.now)
    (Some c.args.text.now.items) (Some c.run.new.output.items) = rw write at c.in_ok-run.ensures.ok in
    let text = c.as_slice-input.ensures.value ∙ text_written prefix up groups bytes _ _ _ c.requires.empty first in
    let rest = Some c.run-2.new.input.now in
    let out_before = g.W.Write.contents c.args.output.now in
    let out_after = g.W.Write.contents c.run-2.new.output in record {
      done = on_ok_weaker c.run-2.result
          (λ ran.
          decoded_again prefix up ignores groups lines bytes are _ rest out_before out_after text (rw read at ran))
          c.run-2.ensures.ok;
      never_rejected = λ e location result_eq.
          never_rejected prefix up ignores groups lines bytes are _ rest out_before out_after e location text
          (rw read at (c.run-2.ensures.text e location result_eq));
    }
