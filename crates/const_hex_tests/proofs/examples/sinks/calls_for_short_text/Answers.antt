-- Proof of the open goal `returns`: the clauses of the contract hold at the return. `c` has the facts that are known
-- there: `c.F.ensures` is what the call of F ensures; `c.F.result` is its result; `c.F.new` is what it has changed;
-- `F-x` is a call whose result is named x.
--
-- Terms of the contracts:
-- - `full_text prefix upper bs`: the text of bs, after `0x` if `prefix` is true
use Rattle.std.proofs.Common.{◌≡◌, ◌+◌, ◌≤◌, ℕ, Bool, List, [], ◌∷◌, length, true, false, arith, length-append, refl, ap, take}
use Rattle.std.proofs.lemmas.List.{length-take}
use Rattle.const_hex.specs.Prelude.{Offers}
use Rattle.const_hex.specs.Sinks.{hex_bytes, PieceState, PieceStep, count_of_calls}
use Rattle.const_hex_arch.proofs.lemmas.Texts.{length-full_text}
use Rattle.const_hex_tests.proofs.examples.sinks.calls_for_short_text.Goals as goal

-- a piece takes one call
calls-of-piece : (s : PieceState) (p : List ℕ) (m : PieceState) → s.failed ≡ false → PieceStep s p m
    → (failed : Bool) → m.failed ≡ failed → count_of_calls m ≤ count_of_calls s + 1
calls-of-piece s p m going step true eq = rw (step.unchanged eq, eq, going) omega (arith)
calls-of-piece s p m going step false eq = rw (step.accepted eq, eq, going, length-append) omega (arith)

-- there are no more calls than pieces
calls-of-pieces : (s : PieceState) (ps : List (List ℕ)) (t : PieceState) → Offers PieceStep (λ s. s.failed) s ps t
    → count_of_calls t ≤ count_of_calls s + length ps
calls-of-pieces s [] t h = grind (arith, h)
calls-of-pieces s (p ∷ ps) t (going, (m, step, rest)) =
    omega (arith, calls-of-piece s p m going step m.failed refl, calls-of-pieces m ps t rest)

pub returns : goal.returns
returns c =
    let h = c.write_to.ensures.streams in
    let few = calls-of-pieces c.new-sink.result (take h.offered h.pieces) c.write_to.new.sink h.run in
    let none : count_of_calls c.new-sink.result ≡ 0 = ap count_of_calls c.new-sink.ensures in
    omega (
      arith,
      c.calls.ensures,
      few,
      none,
      length-take h.offered h.pieces,
      h.calls,
      length-full_text true false (hex_bytes c.new.result),
      ap length c.new.ensures,
      c.requires,
    )
