-- Proofs of open goals, named after their places: `returns` is the return at the end. `c` has the facts that are known
-- there: `c.args` are the arguments; `c.F.ensures` is what the call of F ensures.
use Rattle.std.proofs.Common.{map, refl}
use Rattle.std.specs.List.{range_with_len}
use Rattle.const_hex_arch.specs.{hex_digit}
use Rattle.const_hex_arch.proofs.lemmas.LaneText.{nibbles_ok, text_of_nibbles, digits_are_table}
use Rattle.const_hex_arch.proofs.arch.lanes16.encode_8_lanes.Goals as goal

pub swizzle : goal.swizzle
swizzle c = rw c.split_8_nibbles.ensures (nibbles_ok 1 8 c.args.v c.fits-v refl)

pub returns : goal.returns
returns c =
    let digits = map (hex_digit c.args.upper) (range_with_len 0 16) in
    rw (c.split_8_nibbles.ensures, c.digit_table.ensures)
    (text_of_nibbles c.args.upper 8 digits c.args.v c.fits-v (digits_are_table c.args.upper).1)
