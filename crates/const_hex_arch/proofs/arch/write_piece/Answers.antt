-- Proofs of open goals, named after their places: `returns` is a return; `then-F` is the `then` branch of the `if` that
-- tests F; `else-F` is its `else` branch. `c` has the facts that are known there: `c.args` are the arguments;
-- `c.F.ensures` is what the call of F ensures; `F-x` is a call whose result is named x; `c.if-F` is the test of F. `g`
-- has the type parameters and their traits' members.
use Rattle.std.proofs.Common.{[], ◌∷◌, slice_index_or, arith}
use Rattle.const_hex_arch.proofs.lemmas.Runs.{one_written, Writes-append}
use Rattle.const_hex_arch.proofs.lemmas.Blocks.{two_bytes}
use Rattle.const_hex_arch.proofs.arch.write_piece.Goals as goal

pub returns-then-byte_by_byte : goal.returns-then-byte_by_byte
returns-then-byte_by_byte g c =
    let step = g.O.Output.step in
    let piece = c.args.piece.now in
    rw (two_bytes piece (c.requires.pair c.if-byte_by_byte.true))
    (Writes-append step _ (slice_index_or piece 0 0 ∷ []) _ (slice_index_or piece 1 0 ∷ []) _
    (one_written step _ _ _ c.write_byte.ensures (omega arith)) (one_written step _ _ _ c.write_byte-then-byte_by_byte.ensures (omega arith)))

pub returns-else-byte_by_byte : goal.returns-else-byte_by_byte
returns-else-byte_by_byte g c = one_written g.O.Output.step _ _ _ c.write.ensures c.requires.size
