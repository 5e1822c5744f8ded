-- Proof of the open goal `returns`: the clauses of the contract hold at the return. `c` has the facts that are known
-- there: `c.args` are the arguments; `c.F.ensures` is what the call of F ensures.
--
-- `x` is the input that was read, `y` is the output that was written for it, and `has` is the fact that they match the
-- state.
use Rattle.std.proofs.Common.{refl}
use Rattle.hexfilter_core.proofs.lemmas.Texts.{pairs}
use Rattle.hexfilter_core.proofs.stage.Stage.error.Goals as goal

pub returns : goal.returns
returns c = λ x y rest in_after has is_short invalid. (
  has.text.bytes,
  record {
    front = x;
    rest = rest;
    cut = rw c.from.ensures refl;
    rest_is_short = is_short;
    bytes = pairs c.args.reading c.args.self.now.decoder x has.text.bytes has.text.read;
    invalid = rw c.from.ensures invalid;
    position = has.count;
    located = c.location.ensures x has.scanned;
  },
  has.text.output,
)
