-- What a sink takes: the accepted pieces, and a text that is written in large pieces. A sink receives text, and may
-- fail at each call.
--
-- `step s piece t` says that a call with the piece takes a sink from the state s to t, and `has_failed s` that a call
-- has failed. A sink reports the pieces that it accepted if its contract has them; else what it reports is None.
use Rattle.std.specs.Prelude.{◌≡◌, ℕ, Bool, true, false, List, ◌++◌, Option, Some, None, ◌+◌, [], ◌∷◌, length, if◌then◌else◌, ◌-◌, ◌/◌, ◌≤◌, not, take}
use Rattle.std.specs.Borrow.{GName}
use Rattle.const_hex_arch.specs.declared.sink.output.SinkOutput.{SinkOutput}
use Rattle.std.specs.List.{concat, All}
use Rattle.const_hex_arch.specs.declared.stream.BufferedHex.{BufferedHex}

-- ---- what sinks report of the accepted pieces, and what outputs over sinks do

-- the pieces that were reported, and then more, if a sink reports them
abbrev pub reported_after : Option (List (List ℕ)) → List (List ℕ) → Option (List (List ℕ))
reported_after (Some reported) more = Some (reported ++ more)
reported_after None more = None

-- the sink that an output writes to
abbrev pub output_sink : {S : Type 0} → SinkOutput S → S
output_sink o = o.sink.now

-- the identity of the borrow of an output's sink
abbrev pub sink_name : {S : Type 0} → SinkOutput S → GName
sink_name o = o.sink.ghost_name

-- a step of the same sink if it has not failed, and nothing if it has
pub record SinkStep {S : Type 0} (step : S → List ℕ → S → Type 0) (has_failed : S → Bool) (s : SinkOutput S)
    (piece : List ℕ) (t : SinkOutput S) : Type 0 where
  pub same_sink : sink_name t ≡ sink_name s
  pub accepting : has_failed (output_sink s) ≡ false → step (output_sink s) piece (output_sink t)
  pub after_failure : has_failed (output_sink s) ≡ true → output_sink t ≡ output_sink s

-- ---- a sink that stores its pieces

-- the accepted pieces, the number of the call that is to fail, and whether one has failed
pub record PieceState : Type 0 where
  pub pieces : List (List ℕ)
  pub fail_at : ℕ
  pub failed : Bool

-- how many calls there were: one for each accepted piece, and the one that failed
abbrev pub count_of_calls : PieceState → ℕ
count_of_calls s = length s.pieces + (if s.failed then 1 else 0)

-- one call: the piece is accepted and becomes the last one, or the call fails and the pieces are unchanged; the call
-- with the number `fail_at` fails
pub record PieceStep (s : PieceState) (piece : List ℕ) (t : PieceState) : Type 0 where
  pub same_fail_at : t.fail_at ≡ s.fail_at
  pub accepted : t.failed ≡ false → t.pieces ≡ s.pieces ++ piece ∷ []
  pub unchanged : t.failed ≡ true → t.pieces ≡ s.pieces
  pub injected_failure : length s.pieces + 1 ≡ s.fail_at → t.failed ≡ true

-- ---- a text that is passed to a sink in large pieces

-- the bytes that are written as text
abbrev pub hex_bytes : {upper prefix : ℕ} → BufferedHex upper prefix → List ℕ
hex_bytes h = h.bytes.now

-- a piece that a sink receives has 1 to 4096 bytes
abbrev pub IsSinkPiece : List ℕ → Type 0
IsSinkPiece piece = (1 ≤ length piece) × (length piece ≤ 4096)

-- each piece but the last has at least 4033 bytes
abbrev pub IsLargePiece : List ℕ → Type 0
IsLargePiece piece = 4033 ≤ length piece

-- all pieces but the last
abbrev pub all_but_last : List (List ℕ) → List (List ℕ)
all_but_last pieces = take (length pieces - 1) pieces

-- the pieces together are the text; each has 1 to 4096 bytes, and each but the last at least 4033
pub record Cut (text : List ℕ) (pieces : List (List ℕ)) : Type 0 where
  pub whole : concat pieces ≡ text
  pub sizes : All IsSinkPiece pieces
  pub large : All IsLargePiece (all_but_last pieces)

-- a sink takes a step for each piece, in order, and has not failed before any of them
abbrev pub Offers : {S : Type 0} → (S → List ℕ → S → Type 0) → (S → Bool) → S → List (List ℕ) → S → Type 0
Offers step has_failed s [] t = s ≡ t
Offers {S} step has_failed s (p ∷ ps) t =
    (has_failed s ≡ false) × ((m : S) × step s p m × Offers step has_failed m ps t)

-- the text, cut in some way, is passed to a sink piece by piece, up to the first error or to the end;
-- without an error, that is all of the text; there are no more calls than pieces of 4033 bytes would
-- need
pub record Streams {S : Type 0} (step : S → List ℕ → S → Type 0) (has_failed : S → Bool) (old : S) (text : List ℕ)
    (new : S) : Type 0 where
  pub pieces : List (List ℕ)
  pub offered : ℕ
  pub cut : Cut text pieces
  pub within : offered ≤ length pieces
  pub run : Offers step has_failed old (take offered pieces) new
  pub complete : has_failed new ≡ false → offered ≡ length pieces
  pub calls : offered ≤ (length text + 4032) / 4033

-- the pieces that the sink reports after are those before, and then the pieces of the text
pub record ReportsCut (old : Option (List (List ℕ))) (text : List ℕ) (new : Option (List (List ℕ))) : Type 0 where
  pub pieces : List (List ℕ)
  pub cut : Cut text pieces
  pub reported : new ≡ reported_after old pieces

-- what happens to a sink that is passed a text, and the result
pub record StreamsWhole {S : Type 0} (step : S → List ℕ → S → Type 0) (has_failed : S → Bool)
    (reports : S → Option (List (List ℕ))) (old : S) (text : List ℕ)
    (ok : Bool) (new : S) : Type 0 where
  pub streams : Streams step has_failed old text new
  pub flag : ok ≡ not (has_failed new)
  pub reported : has_failed new ≡ false → ReportsCut (reports old) text (reports new)
