-- Proof of an open goal, named after its place: `returns` is the return at the end; `clause-X` is the clause X of the
-- contract. `c` has the facts that are known there: `c.args` are the arguments; `c.F.ensures` is what the call of F
-- ensures; `c.F.result` is its result; `in_ok-F` is F, where `?` goes on after it. `g` has the type parameters and
-- their traits' members.
use Rattle.std.proofs.Common.{length, arith, take_all}
use Rattle.std.proofs.KnownBytes.{Appends-kept}
use Rattle.hexfilter_core.proofs.lemmas.Runs.{failed}
use Rattle.hexfilter_core.proofs.process.print.Goals as goal

pub returns-clause-err : goal.returns-clause-err
returns-clause-err g c =
    let text = c.args.text.now in
    let wrote = Appends-kept _ _ _ _ c.in_ok-write_piece.ensures.ok c.flush.ensures.bytes in
    failed c.flush.result c.flush.ensures.err
    (length text, rw (take_all (length text) text (omega arith)) (rw c.as_bytes.ensures.value at wrote))
