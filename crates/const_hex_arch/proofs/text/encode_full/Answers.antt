-- Proofs of open goals, named after their places: `returns` is the return at the end; `F-requires` is what the call of
-- F requires. `c` has the facts that are known there: `c.args` are the arguments; `c.F.ensures` is what the call of F
-- ensures. `g` has the type parameters and their traits' members. `search` is a proof search.
--
-- Terms of the contracts:
-- - `full_text prefix upper bs`: the text of bs, after `0x` if `prefix` is true
use Rattle.std.proofs.Common.{◌*◌, length, rules}
use Rattle.const_hex_arch.specs.{prefix_of}
use Rattle.const_hex_arch.proofs.lemmas.Runs.{Writes-append, Writes_space}
use Rattle.const_hex_arch.proofs.lemmas.Texts.{length-full_text}
use Rattle.const_hex_arch.proofs.text.encode_full.Goals as goal

pub encode-requires : goal.encode-requires
encode-requires g c =
    let sized = length-full_text c.args.prefix c.args.upper c.args.input.now in
    Writes_space g.O.Output.step g.O.Output.space g.met.O.Output.shrinks _ (prefix_of c.args.prefix) _
    (2 * length c.args.input.now) c.write_prefix.ensures (rw sized at c.requires)

pub returns : goal.returns
returns g c = search (rules, Writes-append)
