-- Proofs of open goals, named after their places: `returns` is the return at the end; `in_err-F` is the error that `?`
-- returns after F. `c` has the facts that are known there. `g` has the type parameters and their traits' members.
-- `search` is a proof search.
use Rattle.std.proofs.Common.{rules}
use Rattle.const_hex.proofs.lemmas.RoundTrip.{DecodesToArray-from_DecodesToExactly}
use Rattle.const_hex.proofs.codec.decoders.decode_to_array.Goals as goal

pub returns-in_err-decode_to_slice : goal.returns-in_err-decode_to_slice
returns-in_err-decode_to_slice g c = DecodesToArray-from_DecodesToExactly _ _ _ (search rules)

pub returns : goal.returns
returns g c = DecodesToArray-from_DecodesToExactly _ _ _ (search rules)
