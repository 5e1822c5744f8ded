-- What a run has written for the chunks that it has read.
--
-- `r` are the options of decoding, `x` is the input so far, `z` or `y` the output so far, and `s` the state of a
-- scanner or of a run.
use Rattle.std.specs.Prelude.{◌≡◌, ◌<◌, ◌≤◌, ◌++◌, Bool, true, ℕ, List, Option, None, Some, length}
pub use Rattle.const_hex.specs.Prelude.{HasRead, saturated}
pub use Rattle.const_hex.specs.declared.codec.decoder.Decoder.{Decoder}
use Rattle.hexfilter_core.specs.Dumps.{Groups, IsLocation, Reading, group_fill_after_all, encoded, full_text, groups_from, leaves_out, text_of}
use Rattle.hexfilter_core.specs.Runs.{Decode, Encode, IsErrorOf, Outputs, Mode, RunError, written}
pub use Rattle.hexfilter_core.specs.declared.scanner.Scanner.{Scanner}
pub use Rattle.hexfilter_core.specs.declared.stage.Stage.{Stage}

-- the state of the scanner after the input x
pub record HasScanned (r : Reading) (s : Scanner) (x : List ℕ) : Type 0 where
  pub group_fill : s.group_fill ≡ group_fill_after_all r 0 x
  pub location : leaves_out r ≡ true → IsLocation x s.location

-- the bytes u, which follow x in the input, add v to the text, and the scanner has scanned them, too
pub record HasAdded (r : Reading) (s : Scanner) (x u v : List ℕ) : Type 0 where
  pub text : text_of r (x ++ u) ≡ text_of r x ++ v
  pub scanned : HasScanned r s (x ++ u)

-- the decoder has read the text t without an error, and z was written of its bytes
pub record HasWritten (r : Reading) (d : Decoder) (t z : List ℕ) : Type 0 where
  pub bytes : List ℕ
  pub read : HasRead d t bytes
  pub output : z ≡ written r bytes

-- the input x was read without an error, and the bytes z were written
pub record HasDecoded (r : Reading) (s : Stage) (x z : List ℕ) : Type 0 where
  pub text : HasWritten r s.decoder (text_of r x) z
  pub scanned : HasScanned r s.scanner x
  pub count : s.bytes_read ≡ saturated (length x)

-- the bytes x were read and z was written; the rest is the text of the bytes that follow
pub record HasEncoded (prefix upper : Bool) (g : Groups) (s : Stage) (x z : List ℕ) : Type 0 where
  pub rest : (more : List ℕ)
      → encoded prefix upper g (x ++ more) ≡ z ++ groups_from g s.group_fill (full_text s.prefix upper more)
  pub fits : s.group_fill ≤ g.size

-- in this mode, x was read and z was written
abbrev pub HasOutput : Mode → Stage → List ℕ → List ℕ → Type 0
HasOutput (Encode prefix upper g) s x z = HasEncoded prefix upper g s x z
HasOutput (Decode r) s x z = HasDecoded r s x z

-- after the input x, whose last chunk has n bytes, y was written: so far, or at the end (if n is 0), or before an error
abbrev pub Reaches : Mode → Stage → Option (List ℕ) → ℕ → List ℕ → List ℕ → Option RunError → Type 0
Reaches m s in_after n x y None = (0 < n → HasOutput m s x y) × (n ≡ 0 → Outputs m x y)
Reaches m s in_after n x y (Some e) = IsErrorOf m in_after x y e
