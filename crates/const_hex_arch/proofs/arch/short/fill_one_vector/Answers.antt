-- Proof of the open goal `returns`: the clauses of the contract hold at the return. `c` has the facts that are known
-- there: `c.args` are the arguments; `c.F.ensures` is what the call of F ensures; `c.F.result` is its result. `g` has
-- the type parameters and their traits' members.
use Rattle.std.proofs.Common.{◌≡◌, ◌∙◌, take, refl, arith, take_all}
use Rattle.const_hex_arch.proofs.lemmas.Blocks.{hex_text-parts}
use Rattle.const_hex_arch.proofs.arch.short.fill_one_vector.Goals as goal

pub returns : goal.returns
returns g c =
    let lanes = c.load.result in
    let all : take 8 lanes ≡ lanes = take_all 8 lanes (omega arith) in
    let first = (hex_text-parts c.args.upper g.row.H lanes (omega arith)).0 in
    c.copy_from_slice.ensures.after ∙ rw (c.encode_8_lanes.ensures, all) (first ∙ rw (← c.requires.bytes, c.load.ensures) refl)
