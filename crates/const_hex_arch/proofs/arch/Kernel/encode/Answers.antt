-- Proofs of open goals, named after their places: `returns` is the return at the end; `L-init` is the invariant before
-- the loop L; `L-preserved` is the invariant after an iteration of the loop L; `F-requires` is what the call of F
-- requires; `clause-X` is the clause X of the contract. `c` has the facts that are known there: `c.args` are the
-- arguments; `c.F.ensures` is what the call of F ensures; `c.L` has the variables of the loop L and its invariant. `g`
-- has the type parameters and their traits' members.
--
-- Terms of the contracts:
-- - `hex_text upper bs`: two digits for each of the bytes bs
use Rattle.std.proofs.Common.{arith}
use Rattle.std.proofs.lemmas.List.{nil_from_length}
use Rattle.const_hex_arch.proofs.lemmas.Runs.{none_written}
use Rattle.const_hex_arch.proofs.lemmas.Blocks.{first_ascii, parts, text_written}
use Rattle.const_hex_arch.proofs.lemmas.Texts.{IsAscii-hex_text, hex_text-append, hex_text-nil}
use Rattle.const_hex_arch.proofs.arch.Kernel.encode.Goals as goal

pub loop-rest-init : goal.loop-rest-init
loop-rest-init g c = record {
  onward = λ t w. w;
  has_space = c.requires;
  ascii = IsAscii-hex_text c.args.upper _ (λ k. let byte = c.type_inv.input k in omega (arith, byte));
}

pub write_piece-requires-clause-ascii : goal.write_piece-requires-clause-ascii
write_piece-requires-clause-ascii g c =
    let halves = c.split_at.ensures in
    let whole = parts _ halves.front halves.back in
    rw c.fill.ensures (first_ascii _ _ (rw (← whole, hex_text-append) at c.loop-rest.invariant.ascii))

pub loop-rest-preserved : goal.loop-rest-preserved
loop-rest-preserved g c =
    let halves = c.split_at.ensures in
    text_written _ g.met.O.Output.shrinks c.loop-rest.invariant halves.front halves.back
    (rw c.fill.ensures at c.write_piece.ensures)

pub returns : goal.returns
returns g c = grind (arith, nil_from_length, hex_text-nil, none_written)
