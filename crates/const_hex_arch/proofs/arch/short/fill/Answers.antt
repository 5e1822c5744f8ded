-- Proof of an open goal, named after its place: `returns` is a return; `else-F` is the `else` branch of the `if` that
-- tests F. `c` has the facts that are known there.
use Rattle.std.proofs.Common.{arith}
use Rattle.std.proofs.lemmas.List.{nil_from_length}
use Rattle.const_hex_arch.proofs.lemmas.Texts.{hex_text-nil}
use Rattle.const_hex_arch.proofs.arch.short.fill.Goals as goal

pub returns-else-bytes-ge2 : goal.returns-else-bytes-ge2
returns-else-bytes-ge2 c = grind (arith, nil_from_length, hex_text-nil)
