-- Proof of the open goal `returns`: the clauses of the contract hold at the return. `c` has the facts that are known
-- there: `c.args` are the arguments; `c.F.ensures` is what the call of F ensures; `c.F.result` is its result; `c.F.new`
-- is what it has changed; `F-x` is a call whose result is named x. `g` has the type parameters and their traits'
-- members.
--
-- `x` is the input that was read, and `y` the output that was written for it: `read` and `wrote` are these facts, and
-- `end` is the fact that the reader is at its end.
--
-- Terms of the contracts:
-- - `mirror ignores g`: the options that decode a text in the groups g
use Rattle.std.proofs.Common.{arith, ◌≡◌, ◌∙◌, None, Some, refl}
use Rattle.std.specs.Process.{exit_status}
use Rattle.const_hex.specs.Prelude.{AreBytes}
use Rattle.hexfilter_core.specs.Dumps.{encoded, mirror}
use Rattle.hexfilter_core.specs.Runs.{Decode, Encode, Mode}
use Rattle.hexfilter_core.proofs.lemmas.Arguments.{request_for_arguments}
use Rattle.hexfilter_core.proofs.lemmas.Mirror.{decoded_again, never_rejected}
use Rattle.hexfilter_core.proofs.lemmas.Runs.{ends_always, not_rejected, text_written}
use Rattle.hexfilter_core.proofs.callers.encode_and_decode.Goals as goal

pub returns : goal.returns
returns g c =
    let (prefix, up, ignores, groups, lines, write, read) = c.requires.arguments in
    let m : Mode = Encode prefix up groups in
    let n : Mode = Decode (mirror ignores groups) in
    let bytes = c.args.bytes.now in
    let first =
    ends_always _ m _ _ _ _ _ (c.program-written.ensures.input m None (request_for_arguments m _ write) refl) in
    let second =
    ends_always _ n _ _ _ _ _ (c.program.ensures.input n None (request_for_arguments n _ read) refl) in
    let are : AreBytes bytes = λ k. let fits = c.type_inv.bytes k in omega (arith, fits) in
    let input = c.as_slice-input.result.now in
    let rest = Some c.program.new.input.now in
    let out_before = g.W.Write.contents c.args.output.now in
    let out_after = g.W.Write.contents c.program.new.output in
    let text : exit_status c.program-written.result ≡ 0 → input ≡ encoded prefix up groups bytes =
    λ zero. c.as_slice-input.ensures.value
    ∙ text_written prefix up groups bytes _ _ _ c.requires.empty (first.0 zero) in record {
      written = not_rejected m _ (Some bytes) (Some c.program-written.new.input.now) (Some c.args.text.now.items)
          (Some c.program-written.new.output.items) first
          (λ e location rejected. let (x, y, read, fails, wrote) = rejected in fails);
      done = λ zero again.
          decoded_again prefix up ignores groups lines bytes are input rest out_before out_after (text zero)
          (second.0 again);
      never_rejected = λ zero. not_rejected n _ (Some input) rest out_before out_after second (λ e location rejected.
          never_rejected prefix up ignores groups lines bytes are input rest out_before out_after e location (text zero)
          rejected);
    }
