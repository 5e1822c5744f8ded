-- Proofs of open goals, named after their places: `returns` is the return at the end. `c` has the facts that are known
-- there: `c.args` are the arguments.
use Rattle.std.proofs.Common.{refl}
use Rattle.const_hex_arch.specs.declared.arch.lanes16.TheConstants.{LIMITS}
use Rattle.const_hex_arch.proofs.lemmas.LaneText.{masked_ok}
use Rattle.const_hex_arch.proofs.lemmas.LaneValues.{limits_are}
use Rattle.const_hex_arch.proofs.arch.lanes16.MultiplyingLaneOps16.look_up_limits.Goals as goal

pub swizzle : goal.swizzle
swizzle c = masked_ok 143 tt 1 16 c.args.v refl c.fits-v

pub returns : goal.returns
returns c = limits_are LIMITS refl tt c.args.v c.fits-v
