-- Proof of an open goal, named after its place: `returns` is a return; `in-V` is the arm V of a `match`. `c` has the
-- facts that are known there: `c.F.ensures` is what the call of F ensures; `F-x` is a call whose result is named x. `g`
-- has the type parameters and their traits' members. `search` is a proof search.
use Rattle.std.proofs.Common.{rules, sym}
use Rattle.std.proofs.lemmas.Bool.{not-true}
use Rattle.const_hex.proofs.lemmas.Printing.{printed_stream}
use Rattle.const_hex.proofs.formatting.text.Display.write_full.Goals as goal

pub returns-in-Ok : goal.returns-in-Ok
returns-in-Ok g c =
    let took = g.W.Write.write_str_gives in
    let ok = not-true _ (sym c.in-Ok.ensures.flag) in
    let p = printed_stream took _ _ _ ok (rw c.new.ensures at c.write_to.ensures.streams) in
    let name = p.same_formatter in
    let before = c.new-sink.ensures.formatter in
    λ flush _. search (rules, rw before at (p.writes ok (rw before flush)))
