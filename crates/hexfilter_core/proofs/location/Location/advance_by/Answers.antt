-- Proof of the open goal `returns`: the clauses of the contract hold at the return. `c` has the facts that are known
-- there: `c.args` are the arguments.
use Rattle.std.proofs.Common.{refl}
use Rattle.hexfilter_core.proofs.lemmas.Locations.{location_after_run}
use Rattle.hexfilter_core.proofs.location.Location.advance_by.Goals as goal

pub returns : goal.returns
returns c = λ x u located size plain. location_after_run x u c.args.self c.args.count _ located size plain refl
