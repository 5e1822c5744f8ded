-- The invariant of the loop `pairs`, and its measure, which decreases with each iteration. `l` has the live variables.
-- `g` has the type parameters and their traits' members.
--
-- Terms of the contracts:
-- - `Spells u bs`: the digits u decode to the bytes bs
use Rattle.std.proofs.Common.{◌≡◌, ◌≤◌, ◌*◌, ◌-◌, length, take}
use Rattle.const_hex.specs.Prelude.{AllDigits, Spells}
use Rattle.const_hex.proofs.codec.decoders.const_decode_to_array.Given as goal

abbrev pub invariant-pairs : goal.invariant-pairs
invariant-pairs g l = record {
  digits : AllDigits l.body;
  front : Spells (take (2 * l.index) l.body) (take l.index l.bytes);
  size : length l.bytes ≡ g.row.N;
  within : l.index ≤ g.row.N;
}

abbrev pub decreases-pairs : goal.decreases-pairs
decreases-pairs g l = g.row.N - l.index
