-- Proofs of open goals, named after their places: `returns` is the return at the end; `then-F` is the `then` branch of
-- the `if` that tests F; `in-V` is the arm V of a `match`; `L-init` is the invariant before the loop L; `L-preserved`
-- is the invariant after an iteration of the loop L. `c` has the facts that are known there: `c.args` are the
-- arguments; `c.F.ensures` is what the call of F ensures; `c.F.result` is its result; `F-x` is a call whose result is
-- named x; `c.if-F` is the test of F; `c.L` has the variables of the loop L and its invariant. `g` has the type
-- parameters and their traits' members. `search` is a proof search.
use Rattle.std.proofs.Common.{◌*◌, rules, arith, take_all}
use Rattle.std.proofs.lemmas.Grind.{common_steps}
use Rattle.const_hex_arch.proofs.lemmas.Digits.{digit_values}
use Rattle.const_hex_arch.proofs.lemmas.Texts.{pair_more, Spells-digits}
use Rattle.const_hex.proofs.lemmas.RoundTrip.{DecodesToArray-from_DecodesToExactly}
use Rattle.const_hex.proofs.codec.decoders.const_decode_to_array.Goals as goal

pub returns-then-input-ne0 : goal.returns-then-input-ne0
returns-then-input-ne0 g c = DecodesToArray-from_DecodesToExactly g.row.N c.args.input.now _ (search rules)

pub returns-then-body : goal.returns-then-body
returns-then-body g c = DecodesToArray-from_DecodesToExactly g.row.N c.args.input.now _ (search rules)

pub returns-in-Err : goal.returns-in-Err
returns-in-Err g c =
    let checked = c.in-Err.ensures.outcome in
    DecodesToArray-from_DecodesToExactly g.row.N c.args.input.now _ (grind (arith, checked))

pub pairs-init : goal.pairs-init
pairs-init g c =
    let (bytes, reads) = c.in_default.ensures.outcome in record {
      digits = rw c.strip_prefix-body.ensures.body (Spells-digits _ bytes reads.1);
      front = search rules;
      size = grind (arith, common_steps);
      within = search rules;
    }

pub pairs-preserved : goal.pairs-preserved
pairs-preserved g c = search (rules, digit_values, pair_more)

pub returns : goal.returns
returns g c =
    let body = c.strip_prefix-body.ensures.body in
    let all = take_all (2 * c.pairs.index) c.strip_prefix-body.result.now (omega arith) in
    let spelled = rw (all, take_all c.pairs.index c.pairs.bytes (omega arith)) at c.pairs.invariant.front in
    DecodesToArray-from_DecodesToExactly g.row.N c.args.input.now _
    (rw (← body) (omega arith), (omega (arith, c.if-input-ne0.false), rw (← body) spelled))
