-- Proofs of open goals, named after their places: `returns` is the return at the end; `then-F` is the `then` branch of
-- the `if` that tests F; `L-preserved` is the invariant after an iteration of the loop L; `clause-X` is the clause X of
-- the contract; `-2` is the second one of that name. `c` has the facts that are known there: `c.F.ensures` is what the
-- call of F ensures; `F-x` is a call whose result is named x; `c.if-F` is the test of F; `c.L` has the variables of the
-- loop L and its invariant. `g` has the type parameters and their traits' members.
use Rattle.std.proofs.Common.{refl, arith}
use Rattle.const_hex_arch.proofs.lemmas.Blocks.{decoded_block, rejected_block, spells_rest, rejected_rest}
use Rattle.const_hex_arch.proofs.arch.long.decode_before_invalid.Goals as goal

pub loop-output-preserved : goal.loop-output-preserved
loop-output-preserved g c =
    decoded_block _ _ _ c.loop-output.invariant (omega arith)
    (c.if-not-decode_block.ensures.spells refl)

pub returns-then-not-decode_block-clause-invalid : goal.returns-then-not-decode_block-clause-invalid
returns-then-not-decode_block-clause-invalid g c =
    let is = c.if-not-decode_block.ensures in
    rejected_block _ _ _ _ c.loop-output.invariant c.requires is.digits (is.unchanged refl)

pub loop-output-2-preserved : goal.loop-output-2-preserved
loop-output-2-preserved g c =
    decoded_block _ _ _ c.loop-output-2.invariant (omega arith)
    (c.if-not-decode_block-2.ensures.spells refl)

pub returns-then-not-decode_block-2-clause-invalid : goal.returns-then-not-decode_block-2-clause-invalid
returns-then-not-decode_block-2-clause-invalid g c =
    let is = c.if-not-decode_block-2.ensures in
    rejected_block _ _ _ _ c.loop-output-2.invariant c.requires is.digits (is.unchanged refl)

pub returns-clause-spells : goal.returns-clause-spells
returns-clause-spells g c = λ t.
    spells_rest _ c.loop-output-2.invariant c.requires (omega arith) (c.decode_checked.ensures.spells t)

pub returns-clause-invalid : goal.returns-clause-invalid
returns-clause-invalid g c = λ f.
    rejected_rest _ c.loop-output-2.invariant c.requires (omega arith) (c.decode_checked.ensures.invalid f)
