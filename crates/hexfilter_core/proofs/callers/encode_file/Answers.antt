-- Proof of the open goal `returns`: the clauses of the contract hold at the return. `c` has the facts that are known
-- there: `c.F.ensures` is what the call of F ensures. `g` has the type parameters and their traits' members.
use Rattle.std.proofs.Common.{Some, codes, false, refl}
use Rattle.hexfilter_core.specs.Options.{with_arguments}
use Rattle.hexfilter_core.specs.Runs.{Encode, Mode}
use Rattle.hexfilter_core.proofs.callers.encode_file.Goals as goal

-- the mode of a run without options
abbrev mode : Mode
mode = Encode false false (record { size = 0; separator = 10 })

pub returns : goal.returns
unfolding with_arguments
returns g c = (c.program.ensures.file mode (Some 0) (codes "disk.img") (rw c.requires refl) (rw c.requires refl)).0
