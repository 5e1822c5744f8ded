-- Proof of an open goal, named after its place: `returns` is a return; `then-F` is the `then` branch of the `if` that
-- tests F; `clause-X` is the clause X of the contract. `c` has the facts that are known there: `c.args` are the
-- arguments; `c.F.ensures` is what the call of F ensures; `c.F.result` is its result; `F-x` is a call whose result is
-- named x. `g` has the type parameters and their traits' members.
--
-- Terms of the contracts:
-- - `Spells u bs`: the digits u decode to the bytes bs
use Rattle.std.proofs.Common.{◌≡◌, ◌-◌, ◌*◌, ◌/◌, ◌++◌, length, take, drop, sym, arith, take_all, length-take, length-drop, length-append}
use Rattle.const_hex_arch.specs.{Spells}
use Rattle.const_hex_arch.proofs.lemmas.Blocks.{digits_first_and_last, spells_first_and_last}
use Rattle.const_hex_arch.proofs.arch.short.decode_two_vectors.Goals as goal

pub returns-then-are_digits-clause-spells : goal.returns-then-are_digits-clause-spells
returns-then-are_digits-clause-spells g c = λ t.
    let n = g.row.N in
    let u = c.args.text.now in
    let start = length u - n in
    let even : 2 * (n / 2) ≡ n = g.met.V.LaneOps.sizes.2 in
    let block = take n u ++ drop start u in
    let digits = (digits_first_and_last n u (omega arith) (omega arith)).1 (c.check_two_vectors-are_digits.ensures.0 t) in
    let last : take n (drop start u) ≡ drop start u = take_all n (drop start u) (omega (arith, length-drop start u)) in
    let spelled : Spells block c.decode.result = rw last at c.decode.ensures digits in
    let whole : take (2 * n) block ≡ block =
    take_all (2 * n) block (omega (arith, length-append (take n u) (drop start u), length-take n u, length-drop start u)) in
    rw c.copy_first_and_last.ensures
    (spells_first_and_last (n / 2) n (length c.args.output.now) u block _ c.decode.result (sym even) c.requires.size
    (omega (arith, even, c.requires.least)) (omega arith) whole spelled (sym (take_all n c.decode.result (omega arith))) (omega arith))
