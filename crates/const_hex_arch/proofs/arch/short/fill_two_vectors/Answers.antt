-- Proof of the open goal `returns`: the clauses of the contract hold at the return. `c` has the facts that are known
-- there: `c.args` are the arguments; `c.F.ensures` is what the call of F ensures; `F-x` is a call whose result is named
-- x. `g` has the type parameters and their traits' members.
use Rattle.std.proofs.Common.{◌-◌, length, refl, arith}
use Rattle.std.proofs.lemmas.List.{take_rest}
use Rattle.const_hex_arch.proofs.lemmas.Blocks.{filled_first_and_last}
use Rattle.const_hex_arch.proofs.arch.short.fill_two_vectors.Goals as goal

pub returns : goal.returns
returns g c =
    let start = length c.args.bytes.now - g.row.N in
    filled_first_and_last c.args.upper g.row.N start _ c.args.bytes.now _ _ _ c.requires.size c.requires.least (omega arith) refl
    (rw take_rest at c.fill_block.ensures) c.fill_block-2.ensures
