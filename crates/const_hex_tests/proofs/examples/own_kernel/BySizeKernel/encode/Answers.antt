-- Proofs of open goals, named after their places: `returns` is the return at the end; `F-requires` is what the call of
-- F requires; `-2` is the second one of that name. `c` has the facts that are known there: `c.args` are the arguments;
-- `c.F.ensures` is what the call of F ensures; `c.F.result` is its result; `F-x` is a call whose result is named x. `g`
-- has the type parameters and their traits' members.
--
-- Terms of the contracts:
-- - `hex_text upper bs`: two digits for each of the bytes bs
use Rattle.std.proofs.Common.{◌≡◌, ◌*◌, ◌+◌, length, arith}
use Rattle.const_hex.specs.Texts.{hex_text}
use Rattle.const_hex_arch.proofs.lemmas.Runs.{Writes-append, Writes_space}
use Rattle.const_hex_arch.proofs.lemmas.Blocks.{parts}
use Rattle.const_hex_arch.proofs.lemmas.Texts.{hex_text-append, length-hex_text}
use Rattle.const_hex_tests.proofs.examples.own_kernel.BySizeKernel.encode.Goals as goal

pub encode-requires-2 : goal.encode-requires-2
encode-requires-2 g c =
    let up = c.args.upper in
    let first = c.split_at.result.0.now in
    let halves = c.split_at.ensures in
    let sum : length (hex_text up first) + 2 * length c.split_at.result.1.now ≡ 2 * length c.args.input.now =
    omega (arith, length-hex_text up first, halves.front_len, halves.back_len, c.min.ensures) in
    Writes_space g.O.Output.step g.O.Output.space g.met.O.Output.shrinks _ (hex_text up first) _
    (2 * length c.split_at.result.1.now) c.encode.ensures (rw sum c.requires)

pub returns : goal.returns
returns g c =
    let up = c.args.upper in
    let halves = c.split_at.ensures in
    rw (← parts c.min.result halves.front halves.back, hex_text-append)
    (Writes-append g.O.Output.step _ _ _ _ _ c.encode.ensures c.encode-2.ensures)
