-- Proof of the open goal `returns`: the clauses of the contract hold at the return. `c` has the facts that are known
-- there: `c.F.ensures` is what the call of F ensures. `g` has the type parameters and their traits' members.
--
-- `x` is the input that was read, and `y` the output that was written for it: `read` and `wrote` are these facts, and
-- `end` is the fact that the reader is at its end.
use Rattle.hexfilter_core.proofs.lemmas.Locations.{location_in_line}
use Rattle.hexfilter_core.specs.Dumps.{InvalidHexCharacter}
use Rattle.hexfilter_core.proofs.callers.decode_lines.Goals as goal

pub returns : goal.returns
returns g c = λ b i location result_eq.
    let (x, y, read, (bytes, fails, same), wrote) = c.run.ensures.text (InvalidHexCharacter b i) location result_eq in
    let (p, at, here) = fails.located in (
      p,
      fails.front,
      fails.rest,
      at,
      rw fails.cut at read,
      λ lines line cut short. location_in_line fails.front lines line p here cut short,
    )
