-- Proof of an open goal, named after its place: `returns` is a return; `then-F` is the `then` branch of the `if` that
-- tests F. `c` has the facts that are known there: `c.args` are the arguments; `c.F.ensures` is what the call of F
-- ensures; `c.F.new` is what it has changed; `c.if-F` is the test of F. `g` has the type parameters and their traits'
-- members.
--
-- A buffered output is seen as a pair: `s.0` is the output, and `s.1` the pending text. `v` is the fact that the fields
-- are seen so after the bytes were found to be long, `m` is that for the output, and `e` says that nothing is pending.
use Rattle.std.proofs.Common.{◌≡◌, [], take, refl, ap, ◌∙◌, arith}
use Rattle.std.proofs.lemmas.List.{nil_from_length}
use Rattle.const_hex_arch.proofs.lemmas.Runs.{Buffers-long}
use Rattle.const_hex_arch.proofs.output.buffered.BufferedOutputOutput.write.Goals as goal

pub returns-then-bytes : goal.returns-then-bytes
returns-then-bytes g c =
    let s = c.args.self.now in
    let v = c.self-then-bytes.view_is in
    let m = ap (λ p. p.0) v in
    let passed = Buffers-long g.O.Output.step g.O.Output.space g.row.N s.0 s.1 c.args.bytes.now
    c.self-then-bytes.inside.output c.write.new.self in
    elim c.if-bytes-pending.branch [
      | goal.then-bytes-pending w ↦
          let e : take c.self-then-bytes.inside.count c.self-then-bytes.inside.buffer ≡ [] =
          ap (λ p. p.1) v ∙ rw w.self-is w.flush.ensures.empty in
          rw e (passed (rw (m, w.self-is) w.flush.ensures.run) c.write.ensures c.if-bytes.true)
      | goal.else-bytes-pending w ↦
          let d : s.1 ≡ [] = nil_from_length s.1 (omega arith) in
          let e : take c.self-then-bytes.inside.count c.self-then-bytes.inside.buffer ≡ [] =
          ap (λ p. p.1) v ∙ rw w.self-is d in
          rw e (passed (rw (m, w.self-is, d) refl) c.write.ensures c.if-bytes.true)
    ]
