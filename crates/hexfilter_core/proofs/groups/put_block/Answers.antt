-- Proof of an open goal, named after its place: `returns` is the return at the end; `clause-X` is the clause X of the
-- contract. `c` has the facts that are known there: `c.args` are the arguments; `c.F.ensures` is what the call of F
-- ensures; `c.F.new` is what it has changed.
use Rattle.std.proofs.Common.{arith}
use Rattle.hexfilter_core.proofs.lemmas.Groups.{puts_one}
use Rattle.hexfilter_core.proofs.groups.put_block.Goals as goal

pub returns-clause-groups : goal.returns-clause-groups
returns-clause-groups c =
    puts_one c.args.groups c.args.text.now c.args.output.now c.copy_from_slice.new.self
    (omega (arith, c.requires.size)) c.requires.short (omega (arith, c.requires.text))
    (omega (arith, c.requires.text, c.requires.space)) c.copy_from_slice.ensures.after
