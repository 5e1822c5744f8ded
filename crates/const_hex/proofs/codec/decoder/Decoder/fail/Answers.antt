-- Proof of an open goal, named after its place: `returns` is the return at the end; `clause-X` is the clause X of the
-- contract. `c` has the facts that are known there: `c.args` are the arguments; `c.F.ensures` is what the call of F
-- ensures; `c.F.result` is its result; `F-x` is a call whose result is named x. `g` has the type parameters and their
-- traits' members.
--
-- Terms of the contracts:
-- - `saturated n`: n, but at most `usize::MAX`
use Rattle.std.proofs.Common.{◌≡◌, ◌+◌, arith}
use Rattle.const_hex.specs.Prelude.{saturated, position_of}
use Rattle.const_hex.proofs.codec.decoder.Decoder.fail.Goals as goal

pub returns-clause-names : goal.returns-clause-names
returns-clause-names g c = λ n.
    let found = c.find_first_invalid-byte.ensures in
    let p = c.find_first_invalid-byte.result.1 in
    let index : c.saturating_add-index.result ≡ saturated (position_of c.args.self.now + c.args.skipped + p) =
    omega (arith, c.saturating_add-index.ensures, c.saturating_add.ensures) in
    (p, found.invalid n, cc (found.byte, index, c.invalid_character.ensures))
