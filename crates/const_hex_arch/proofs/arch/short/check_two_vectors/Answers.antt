-- Proof of the open goal `returns`: the clauses of the contract hold at the return. `c` has the facts that are known
-- there: `c.args` are the arguments; `c.F.ensures` is what the call of F ensures. `g` has the type parameters and their
-- traits' members.
use Rattle.std.proofs.Common.{◌≡◌, ◌-◌, length, take, drop, arith, take_all, length-drop}
use Rattle.const_hex_arch.proofs.lemmas.Blocks.{digits_first_and_last}
use Rattle.const_hex_arch.proofs.lemmas.Standard.{through}
use Rattle.const_hex_arch.proofs.arch.short.check_two_vectors.Goals as goal

pub returns : goal.returns
returns g c =
    let n = g.row.N in
    let u = c.args.text.now in
    let start = length u - n in
    let last : take n (drop start u) ≡ drop start u = take_all n (drop start u) (omega (arith, length-drop start u)) in
    through (rw last at c.are_all_digits.ensures) (digits_first_and_last n u (omega arith) (omega arith))
