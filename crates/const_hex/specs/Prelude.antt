-- The names that most clauses and proofs cite, passed on from one place. Declares nothing.
pub use Rattle.const_hex_arch.specs.Outputs.{HasSpace}
pub use Rattle.const_hex_arch.specs.Sinks.{Offers, Streams, ReportsCut, reported_after, Cut}
pub use Rattle.const_hex_arch.specs.Texts.{AllDigits, FirstInvalidAt, IsDigit, value_or_nil, hex_value, Spells, hex_digit, Partial, full_text, text_length, prefix_of}
unfoldable pub use Rattle.const_hex_arch.specs.Texts.{hex_text}
pub use Rattle.const_hex.specs.Buffers.{blank_text, buffer_text}
pub use Rattle.const_hex.specs.Decoding.{saturated, position_of, HasRead, NamesInvalidSaturated, error_of, pending_digit, zero_decoder, ChecksChunk, DecodesChunk, ChunkResult, ChunkCheckResult}
pub use Rattle.const_hex.specs.Messages.{shown, message_text, message_of}
pub use Rattle.const_hex.specs.Results.{body_of, IsOdd, DecodesTo, lowered, DecodesToExactly, Checks, ChecksText, IsEven, is_text_of, AreBytes, Decodes, DecodesToArray, all_digits, DecodesToSlice, DecodesToFront, EncodesToSlice, Encodes, DecodesWithin, LeavesOutput}
pub use Rattle.const_hex.specs.TypeLaws.{body-parity, DecodesToExactly-faithful, DecodesToOwned-faithful, DecodesToPointer-faithful, DecodesToSigned-faithful, DecodesToValue-faithful}
pub use Rattle.const_hex.specs.Types.{with_low, signed_of, DecodesJson, json_message, IsCount, chars_left, exactly, is_no_memory, AnyCount, DecodesToOwned, DecodesToPointer, IsFaithful, byte_of, DecodesToSigned, IsRejected, DecodesToValue}
pub use Rattle.const_hex.specs.Writers.{FormatterStep, WriteStep, sink_writer, writer_failed, display_bytes, sink_formatter, formatter_name, formatter_failed, printed_text, ReportsWhole, WritesBeginning, writer_name, first_error}
pub use Rattle.const_hex.specs.declared.codec.decoder.Decoder.{Decoder}
pub use Rattle.const_hex.specs.declared.error.FromHexError.{FromHexError}
pub use Rattle.const_hex.specs.declared.error.FromHexError.TheVariants.{OddLength, InvalidStringLength, InvalidHexCharacter, NoMemory}
