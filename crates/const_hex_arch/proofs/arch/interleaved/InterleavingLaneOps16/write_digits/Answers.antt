-- Proofs of open goals, named after their places: `returns` is the return at the end. `c` has the facts that are known
-- there: `c.args` are the arguments; `c.F.ensures` is what the call of F ensures; `F-x` is a call whose result is named
-- x.
use Rattle.std.proofs.Common.{◌∙◌, ap, length, arith, refl}
use Rattle.std.proofs.lemmas.Simd.{put_chunk_whole}
use Rattle.const_hex_arch.proofs.lemmas.LaneText.{high_ok, masked_ok, interleaved_text}
use Rattle.const_hex_arch.proofs.arch.interleaved.InterleavingLaneOps16.write_digits.Goals as goal

pub swizzle-first : goal.swizzle-first
swizzle-first c = high_ok c.args.v c.fits-v

pub swizzle-second : goal.swizzle-second
swizzle-second c = masked_ok 15 tt 1 16 c.args.v refl c.fits-v

pub returns : goal.returns
returns c =
    let text = interleaved_text c.args.upper c.args.v c.fits-v in
    put_chunk_whole _ _ (omega (arith, c.requires, ap length c.concat_lanes.ensures)) ∙ c.concat_lanes.ensures
    ∙ rw c.digit_table-digits.ensures text
