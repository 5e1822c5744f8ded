-- Proofs of open goals, named after their places: `returns` is the return at the end; `then-F` is the `then` branch of
-- the `if` that tests F. `c` has the facts that are known there: `c.args` are the arguments.
use Rattle.std.proofs.Common.{◌≡◌, length, arith, nat_lt, w8}
use Rattle.std.proofs.lemmas.Simd.{bitmask_splat, first_set_mask_l}
use Rattle.hexfilter_core.proofs.scanner.count_above_space.Goals as goal

pub returns-then-mask-eq0 : goal.returns-then-mask-eq0
returns-then-mask-eq0 c =
    let long : length c.args.block ≡ 32 = omega (arith, c.fits-block.0) in
    let mask = bitmask_splat w8 (λ a b. nat_lt a b) c.args.block 32 33 long (omega arith) in
    grind (arith, mask, first_set_mask_l (λ b. nat_lt b 33) c.args.block 32 long (omega arith))

pub returns : goal.returns
returns c =
    let long : length c.args.block ≡ 32 = omega (arith, c.fits-block.0) in
    let mask = bitmask_splat w8 (λ a b. nat_lt a b) c.args.block 32 33 long (omega arith) in
    grind (arith, mask, first_set_mask_l (λ b. nat_lt b 33) c.args.block 32 long (omega arith))
