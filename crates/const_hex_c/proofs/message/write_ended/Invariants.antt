-- The invariant of the loop `bytes`, and its measure, which decreases with each iteration. `l` has the live variables,
-- `l.initial` their values before the loop.
use Rattle.std.proofs.Common.{◌≡◌, ◌<◌, ◌+◌, ◌-◌, ◌≤◌, length, take, drop, slice_index}
use Rattle.const_hex_c.proofs.message.write_ended.Given as goal

abbrev pub invariant-bytes : goal.invariant-bytes
invariant-bytes l = record {
  within : l.count ≤ length l.text;
  fits : l.count < length l.output;
  size : length l.output ≡ length l.initial.output;
  front : take l.count l.output ≡ take l.count l.text;
  nul_terminated : slice_index l.output l.count ≡ 0;
  rest : drop (l.count + 1) l.output ≡ drop (l.count + 1) l.initial.output;
}

abbrev pub decreases-bytes : goal.decreases-bytes
decreases-bytes l = length l.text - l.count
