-- What formatters, sinks and writers hold after a write.
--
-- `s` and `t` are the states of a sink before and after a piece. `took` says what a write of text does to a
-- formatter's destination, and `contents` is what a writer holds, or None if a contract cannot know it.
use Rattle.std.specs.Prelude.{◌≡◌, ◌≢◌, ℕ, Bool, false, List, true, [], take, Option, is_some, IfSome}
use Rattle.std.specs.Borrow.{GName}
use Rattle.std.specs.Fmt.{IsFlush, HasWrittenStyled}
use Rattle.std.specs.declared.fmt.Formatter.{Formatter}
use Rattle.const_hex_arch.specs.Texts.{full_text}
use Rattle.const_hex.specs.declared.formatting.sink.FormatterSink.{FormatterSink}
use Rattle.const_hex.specs.declared.formatting.text.Display.{Display}
use Rattle.std.specs.Io.KnownBytes.{Appends}
use Rattle.std.specs.IoError.{error_kind}
use Rattle.std.specs.declared.io.Error.{Error}
use Rattle.std.specs.declared.io.ErrorKind.TheVariants.{Interrupted}
use Rattle.const_hex.specs.declared.write_sink.WriteSink.{WriteSink}
use Rattle.std.specs.List.{concat}
use Rattle.const_hex_arch.specs.Sinks.{reported_after}

-- ---- printing bytes through a formatter

-- the bytes that are printed
abbrev pub display_bytes : Display → List ℕ
display_bytes d = d.input.now

-- their text, after `0x` if a prefix is wanted; a formatter wants one if it has `#`
abbrev pub printed_text : Bool → Bool → Display → List ℕ
printed_text prefix up d = full_text prefix up (display_bytes d)

-- the formatter of a sink
abbrev pub sink_formatter : {W : Type 0} → FormatterSink W → Formatter W
sink_formatter s = s.formatter.now

-- the identity of the borrow of a sink's formatter
abbrev pub formatter_name : {W : Type 0} → FormatterSink W → GName
formatter_name s = s.formatter.ghost_name

-- the formatter of a sink has failed
abbrev pub formatter_failed : {W : Type 0} → FormatterSink W → Bool
formatter_failed s = s.failed

-- the same formatter has written the piece if it has not failed; its options do not matter
pub record FormatterStep {W : Type 0} (took : W → List ℕ → W → Type 0) (s : FormatterSink W) (piece : List ℕ)
    (t : FormatterSink W) : Type 0 where
  pub same_formatter : formatter_name t ≡ formatter_name s
  pub writes : formatter_failed t ≡ false → IsFlush (sink_formatter s)
      → HasWrittenStyled took (sink_formatter s) piece (sink_formatter t)

-- ---- a sink over a writer

-- a beginning of the bytes was written: all, some or none of them
abbrev pub WritesBeginning : Option (List ℕ) → Option (List ℕ) → List ℕ → Type 0
WritesBeginning held holds bs = (n : ℕ) × Appends held holds (take n bs)

-- the writer of a sink
abbrev pub sink_writer : {W : Type 0} → WriteSink W → W
sink_writer s = s.writer.now

-- the identity of the borrow of a sink's writer
abbrev pub writer_name : {W : Type 0} → WriteSink W → GName
writer_name s = s.writer.ghost_name

-- the first error of the writer
abbrev pub first_error : {W : Type 0} → WriteSink W → Option Error
first_error s = s.error

-- the writer of a sink has failed
abbrev pub writer_failed : {W : Type 0} → WriteSink W → Bool
writer_failed s = is_some s.error

-- the same writer has written the text if it has not failed, or a beginning of the text if it has failed, with
-- an error other than that of an interrupted call; an empty text changes nothing
pub record WriteStep {W : Type 0} (contents : W → Option (List ℕ)) (s : WriteSink W) (text : List ℕ)
    (t : WriteSink W) : Type 0 where
  pub same_writer : writer_name t ≡ writer_name s
  pub accepted : writer_failed t ≡ false → Appends (contents (sink_writer s)) (contents (sink_writer t)) text
  pub failed : writer_failed t ≡ true → WritesBeginning (contents (sink_writer s)) (contents (sink_writer t)) text
  pub retried : writer_failed s ≡ false → IfSome (first_error t) (λ e. error_kind e ≢ Interrupted)
  pub unchanged_if_empty : text ≡ [] → t ≡ s

-- ---- text that is written to a sink

-- the pieces that the sink reports after are those before, and then pieces that together are the text
pub record ReportsWhole (old : Option (List (List ℕ))) (text : List ℕ) (new : Option (List (List ℕ))) : Type 0 where
  pub pieces : List (List ℕ)
  pub whole : concat pieces ≡ text
  pub reported : new ≡ reported_after old pieces
