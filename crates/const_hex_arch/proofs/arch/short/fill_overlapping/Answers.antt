-- Proof of the open goal `returns`: the clauses of the contract hold at the return. `c` has the facts that are known
-- there: `c.args` are the arguments; `c.F.ensures` is what the call of F ensures; `F-x` is a call whose result is named
-- x. `g` has the type parameters and their traits' members.
use Rattle.std.proofs.Common.{◌-◌, ◌*◌, length, arith}
use Rattle.const_hex_arch.proofs.lemmas.Blocks.{IsFilled, none_filled, filled_block, filled_less, filled_rest}
use Rattle.const_hex_arch.proofs.arch.short.fill_overlapping.Goals as goal

pub returns : goal.returns
returns g c =
    let n = g.row.H in
    let first : IsFilled c.args.upper c.args.bytes.now _ n =
    filled_block _ n (2 * n) (none_filled c.requires.size) (omega arith) (omega arith) (omega arith)
    c.fill_one_vector.ensures in
    filled_rest _ (filled_less (length c.args.bytes.now - n) first (omega arith)) c.fill_one_vector-2.ensures
