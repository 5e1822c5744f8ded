-- Proof of the open goal `returns`: the clauses of the contract hold at the return. `c` has the facts that are known
-- there: `c.args` are the arguments; `c.F.ensures` is what the call of F ensures; `c.F.new` is what it has changed. `g`
-- has the type parameters and their traits' members.
use Rattle.std.proofs.Common.{◌≡◌, ◌-◌, ◌*◌, ◌<◌, ◌≤◌, ◌++◌, ℕ, List, take, drop, get_or, length, length-append, length-drop, replicate, refl, arith, take_all}
use Rattle.std.proofs.lemmas.Grind.{common_steps}
use Rattle.std.proofs.lemmas.List.{take_at, drop_at}
use Rattle.std.proofs.lemmas.List.Elements.{All-replicate}
use Rattle.std.proofs.lemmas.Simd.{length-replicate}
use Rattle.const_hex_arch.specs.{IsDigit}
use Rattle.const_hex_arch.proofs.lemmas.Blocks.{padded_first_and_last, first_and_last_are_bytes}
use Rattle.const_hex_arch.proofs.arch.short.load_first_and_last.Goals as goal

pub returns : goal.returns
returns g c =
    let count = c.args.count in
    let n = 2 * count in
    let bytes = c.args.bytes.now in
    let front = c.copy_first_and_last.new.output in
    let zeros = c.copy_from_slice.new.self in
    let same : front ≡ take count bytes ++ drop (length bytes - count) bytes = grind (arith, common_steps) in
    let small : (k : ℕ) → get_or front k 0 < 256 =
    rw same (first_and_last_are_bytes count bytes c.requires.size (λ k. let byte = c.type_inv.bytes k in omega (arith, byte))) in
    let long : length front ≡ n = omega arith in
    let rest : List ℕ = replicate (g.row.N - n) 48 in
    let ends : List ℕ = front ++ drop n (replicate g.row.N 0) in
    let padding : List ℕ = zeros ++ drop n (replicate g.row.N 48) in
    let first : length ends ≤ g.row.N = simp (length-append, length-drop, length-replicate) (omega arith) in
    let second : length padding ≤ g.row.N = simp (length-append, length-drop, length-replicate) (omega arith) in
    rw (
      take_all g.row.N ends first,
      take_all g.row.N padding second,
      padded_first_and_last n g.row.N front zeros long c.requires.half c.copy_from_slice.ensures.after small,
      take_at front rest n long,
      drop_at front rest n long,
    )
    (record { ends = same; rest = All-replicate IsDigit _ 48 refl })
