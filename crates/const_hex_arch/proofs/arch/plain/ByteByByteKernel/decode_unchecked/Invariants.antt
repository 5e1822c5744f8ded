-- The invariant of the loop `loop-i`. `l` has the live variables. `g` has the type parameters and their traits'
-- members.
--
-- Terms of the contracts:
-- - `Spells u bs`: the digits u decode to the bytes bs
use Rattle.std.proofs.Common.{◌*◌, take}
use Rattle.const_hex_arch.specs.{Spells}
use Rattle.const_hex_arch.proofs.arch.plain.ByteByByteKernel.decode_unchecked.Given as goal

abbrev pub invariant-loop-i : goal.invariant-loop-i
invariant-loop-i g l = Spells (take (2 * l.i) l.input) (take l.i l.output)
