-- Proof of an open goal, named after its place: `returns` is a return; `in-V` is the arm V of a `match`; `clause-X` is
-- the clause X of the contract. `c` has the facts that are known there: `c.F.ensures` is what the call of F ensures;
-- `F-x` is a call whose result is named x. `g` has the type parameters and their traits' members.
use Rattle.std.proofs.Common.{inr}
use Rattle.const_hex_tests.proofs.examples.readers.read_both.Goals as goal

pub returns-in-Err-read-clause-error : goal.returns-in-Err-read-clause-error
returns-in-Err-read-clause-error g c = λ other. inr (c.in-Err-read.ensures.error other)
