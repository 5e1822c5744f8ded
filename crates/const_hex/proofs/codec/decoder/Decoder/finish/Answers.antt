-- Proofs of open goals, named after their places: `returns` is the return at the end; `then-F` is the `then` branch of
-- the `if` that tests F; `clause-X` is the clause X of the contract. `c` has the facts that are known there: `c.args`
-- are the arguments; `c.if-F` is the test of F. `search` is a proof search.
use Rattle.std.proofs.Common.{arith, refl, rules}
use Rattle.const_hex.proofs.lemmas.Decoding.{ends_even, ends_odd}
use Rattle.const_hex.proofs.codec.decoder.Decoder.finish.Goals as goal

pub returns-then-self-eq-PENDING-clause-ok : goal.returns-then-self-eq-PENDING-clause-ok
returns-then-self-eq-PENDING-clause-ok c = λ t bs r.
    let odd = ends_odd c.args.self t bs r c.if-self-eq-PENDING.true in
    (λ is_ok. cc, λ reads. absurd (omega (arith, odd, reads.0)))

pub returns-then-self-eq-PENDING-clause-odd : goal.returns-then-self-eq-PENDING-clause-odd
returns-then-self-eq-PENDING-clause-odd c = search (rules, ends_odd)

pub returns-clause-ok : goal.returns-clause-ok
returns-clause-ok c = λ t bs r. (λ _. ends_even c.args.self t bs r c.if-self-eq-PENDING.false, λ _. refl)

pub returns-clause-odd : goal.returns-clause-odd
returns-clause-odd c = λ t bs r.
    let even = (ends_even c.args.self t bs r c.if-self-eq-PENDING.false).0 in
    (λ is_ok. cc, λ odd. absurd (omega (arith, odd, even)))
