-- The invariant of the loop `bytes`. `l` has the live variables.
use Rattle.std.proofs.Common.{◌≡◌, take, map}
use Rattle.const_hex.specs.Prelude.{signed_of}
use Rattle.const_hex.proofs.traits.signed.fill_signed.Given as goal

abbrev pub invariant-bytes : goal.invariant-bytes
invariant-bytes l = take l.i l.numbers ≡ map signed_of (take l.i l.bytes)
