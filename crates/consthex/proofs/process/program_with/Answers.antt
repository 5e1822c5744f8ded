-- Proof of an open goal, named after its place: `returns` is a return; `in-V` is the arm V of a `match`; `clause-X` is
-- the clause X of the contract. `c` has the facts that are known there: `c.F.ensures` is what the call of F ensures;
-- `c.F.result` is its result. `g` has the type parameters and their traits' members.
use Rattle.consthex.proofs.lemmas.Statuses.{ends_failed}
use Rattle.consthex.proofs.process.program_with.Goals as goal

pub returns-in-Err-clause-ran : goal.returns-in-Err-clause-ran
returns-in-Err-clause-ran g c = λ _.
    let ran = c.run.ensures in (
      c.in-Some.mode,
      (c.mode_of.ensures c.in-Some.mode).0 c.in-Some.is,
      rw c.report.ensures (ends_failed c.in-Some.mode c.run.result c.in-Err.error _ _ _ _ c.in-Err.is ran.text
          ran.write_failed ran.nothing_written),
    )
