-- Proof of the open goal `returns`: the clauses of the contract hold at the return. `c` has the facts that are known
-- there: `c.args` are the arguments; `c.F.ensures` is what the call of F ensures; `F-x` is a call whose result is named
-- x.
use Rattle.std.proofs.Common.{[], ◌∷◌, refl}
use Rattle.hexfilter_core.proofs.lemmas.Texts.{group_fill-append, text-byte}
use Rattle.hexfilter_core.specs.Dumps.{group_fill_after_all}
use Rattle.hexfilter_core.proofs.scanner.Scanner.scan_byte.Goals as goal

pub returns : goal.returns
unfolding group_fill_after_all
returns c = λ x has.
    let r = c.args.reading in
    let b = c.args.byte in record {
      text = rw (text-byte r x b, ← has.group_fill, c.classify_byte-added.ensures.text) refl;
      scanned = record {
        group_fill = rw (group_fill-append r 0 x (b ∷ []), ← has.group_fill) c.classify_byte-added.ensures.group_fill;
        location = λ some. c.after-self.ensures x (has.location some);
      };
    }
