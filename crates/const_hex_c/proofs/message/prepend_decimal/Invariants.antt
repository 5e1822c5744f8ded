-- The invariant of the loop `digits`, and its measure, which decreases with each iteration. `l` has the live variables.
use Rattle.std.proofs.Common.{◌≡◌, ◌+◌, ◌≤◌, ◌++◌, length, drop, decimal}
use Rattle.const_hex_c.proofs.message.prepend_decimal.Given as goal

-- 59 is `MAX_MESSAGE`, a number of 64 bits has at most 20 digits, and those of `quotient` are still to be written
abbrev pub invariant-digits : goal.invariant-digits
invariant-digits l = record {
  within : l.start ≤ 59;
  size : length l.space ≡ 59;
  at_most_20 : length (decimal l.number) ≤ 20;
  start : l.start + length (decimal l.number) ≡ 59 + length (decimal l.quotient);
  digits : decimal l.quotient ++ drop l.start l.space ≡ decimal l.number;
}

abbrev pub decreases-digits : goal.decreases-digits
decreases-digits l = l.quotient
