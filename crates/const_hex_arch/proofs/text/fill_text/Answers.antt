-- Proofs of open goals, named after their places: `returns` is the return at the end; `clause-X` is the clause X of the
-- contract. `c` has the facts that are known there: `c.args` are the arguments. `g` has the type parameters and their
-- traits' members. `search` is a proof search.
--
-- Terms of the contracts:
-- - `full_text prefix upper bs`: the text of bs, after `0x` if `prefix` is true
use Rattle.std.proofs.Common.{rules, arith}
use Rattle.const_hex_arch.proofs.lemmas.Texts.{IsAscii-full_text}
use Rattle.const_hex_arch.proofs.text.fill_text.Goals as goal

pub returns-clause-text : goal.returns-clause-text
returns-clause-text g c = search rules

pub returns-clause-ascii : goal.returns-clause-ascii
returns-clause-ascii g c =
    rw (returns-clause-text g c)
    (IsAscii-full_text c.args.prefix c.args.upper c.args.input.now
    (λ k. let byte = c.type_inv.input k in omega (arith, byte)))
