-- Proof of the open goal `returns`: the clauses of the contract hold at the return. `c` has the facts that are known
-- there: `c.args` are the arguments; `c.F.ensures` is what the call of F ensures.
use Rattle.std.proofs.Common.{false, arith}
use Rattle.const_hex.specs.Prelude.{AreBytes}
use Rattle.const_hex_tests.proofs.examples.store.round_trip_array.Goals as goal

pub returns : goal.returns
returns c =
    let are : AreBytes c.args.key.now = λ k. let fits = c.fits-key k in omega (arith, fits) in
    grind (arith, c.decode_to_array.ensures.round_trip false false c.args.key.now are)
