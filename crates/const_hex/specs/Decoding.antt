-- Decoding a text that arrives in chunks, by a `Decoder`.
--
-- `t` is the text read so far, `bs` are the bytes that were written for it, `n` is the space of an output, `r` the
-- result of a call, and `e` an error. `Spells u bs` says that the digits u decode to the bytes bs, and `Partial old u
-- new` what an output holds after u was rejected.
use Rattle.std.specs.Prelude.{◌≡◌, ℕ, ◌+◌, ◌-◌, ◌/◌, ◌^◌, ◌≤◌, ◌<◌, ◌==◌, nat_le, min, if◌then◌else◌, List, [], ◌∷◌, ◌++◌, length, Option, Some, None, Result, Ok, Err, ◌*◌, ◌≢◌, take, drop, IfOk, IfErr, IfSome, OnOk}
use Rattle.const_hex_arch.specs.Texts.{AllDigits, Partial, Spells}
use Rattle.const_hex.specs.Results.{body_of, NamesFirstInvalid}
use Rattle.const_hex.specs.declared.codec.decoder.Decoder.{Decoder}
use Rattle.const_hex.specs.declared.error.FromHexError.{FromHexError}
use Rattle.const_hex.specs.declared.error.FromHexError.TheVariants.{OddLength, InvalidStringLength, InvalidHexCharacter, NoMemory}

-- n, or `usize::MAX` if that is less: a saturating count of bytes
abbrev pub saturated : ℕ → ℕ
saturated n = min n (2 ^ 64 - 1)

-- the pending digit, which is the first of an incomplete pair, if there is one: if the state is 1 (`PENDING`)
abbrev pub pending_digit : Decoder → List ℕ
pending_digit d = if d.state == 1 then d.byte ∷ [] else []

-- how many bytes of the text were read; after an error, the position of the invalid character
abbrev pub position_of : Decoder → ℕ
position_of d = d.index

-- the stored error, if a chunk had an invalid character: if the state is neither 0 (`EVEN`) nor 1
abbrev pub error_of : Decoder → Option FromHexError
error_of d = if nat_le d.state 1 then None else Some (InvalidHexCharacter d.byte d.index)

-- the decoder whose fields are zero
abbrev pub zero_decoder : Decoder
zero_decoder = record { index = 0; byte = 0; state = 0 }

-- the decoder has read the text t without an error, and has written the bytes bs: the body of t is the
-- pairs of digits of bs, and then the pending digit, if there is one
pub record HasRead (d : Decoder) (t bs : List ℕ) : Type 0 where
  pub no_error : error_of d ≡ None
  pub position : position_of d ≡ saturated (length t)
  pub pairs : List ℕ
  pub body : body_of t ≡ pairs ++ pending_digit d
  pub decoded : Spells pairs bs
  pub pending_valid : AllDigits (pending_digit d)

-- as `NamesFirstInvalid`, with a saturating position
abbrev pub NamesInvalidSaturated : List ℕ → ℕ → ℕ → Type 0
NamesInvalidSaturated t c index = (n : ℕ) × NamesFirstInvalid t c n × (index ≡ saturated n)

-- the result of a chunk after which the text read is t, if the bytes bs were written before it, and there is
-- space for n bytes: the space is tested first, by the number of digits, and then each digit
abbrev pub ChunkResult : List ℕ → List ℕ → ℕ → Result ℕ FromHexError → Type 0
ChunkResult t bs n (Ok more) = (more ≤ n) × (length (body_of t) / 2 ≡ length bs + more) × AllDigits (body_of t)
ChunkResult t bs n (Err OddLength) = ⊥
ChunkResult t bs n (Err InvalidStringLength) = length bs + n < length (body_of t) / 2
ChunkResult t bs n (Err (InvalidHexCharacter c i)) = (length (body_of t) / 2 ≤ length bs + n) × NamesInvalidSaturated t c i
ChunkResult t bs n (Err NoMemory) = ⊥

-- `Decoder::decode`: the decoder `before` decodes the chunk into an output that held `old`, with the result r,
-- which is the number of new bytes; t is what was read before, and bs are the bytes that were written for it
pub record DecodesChunk (before : Decoder) (chunk old new : List ℕ) (after : Decoder) (r : Result ℕ FromHexError) : Type
    0 where
  pub ok : (t bs : List ℕ) → HasRead before t bs → IfOk r (λ n. HasRead after (t ++ chunk) (bs ++ take n new))
  pub outcome : (t bs : List ℕ) → HasRead before t bs → ChunkResult (t ++ chunk) bs (length old) r
  pub within : IfOk r (λ n. n ≤ length old)
  pub most : IfOk r (λ n. n ≤ (length chunk + 1) / 2)
  pub enough : (length chunk + 1) / 2 ≤ length old → r ≢ Err InvalidStringLength
  pub rest : IfOk r (λ n. drop n new ≡ drop n old)
  pub unchanged : r ≡ Err InvalidStringLength → (after ≡ before) × (new ≡ old)
  pub after_error : (t bs : List ℕ) → HasRead before t bs
      → IfErr r (λ e. e ≢ InvalidStringLength → Partial old (drop (2 * length bs) (body_of (t ++ chunk))) new)
  -- the decoder stores the error of an invalid character, and returns it again
  pub error_stored : IfErr r (λ e. e ≢ InvalidStringLength → error_of after ≡ Some e)
  pub error_repeated : IfSome (error_of before) (λ e. (r ≡ Err e) × (after ≡ before) × (new ≡ old))

-- as `ChunkResult`, if no space is needed
abbrev pub ChunkCheckResult : List ℕ → Result Unit FromHexError → Type 0
ChunkCheckResult t (Ok u) = AllDigits (body_of t)
ChunkCheckResult t (Err OddLength) = ⊥
ChunkCheckResult t (Err InvalidStringLength) = ⊥
ChunkCheckResult t (Err (InvalidHexCharacter c i)) = NamesInvalidSaturated t c i
ChunkCheckResult t (Err NoMemory) = ⊥

-- `Decoder::check`: as `DecodesChunk`, but the new bytes are not written
pub record ChecksChunk (before : Decoder) (chunk : List ℕ) (after : Decoder) (r : Result Unit FromHexError) : Type 0
  where
    pub ok : (t bs : List ℕ) → HasRead before t bs → OnOk r ((more : List ℕ) × HasRead after (t ++ chunk) (bs ++ more))
    pub outcome : (t bs : List ℕ) → HasRead before t bs → ChunkCheckResult (t ++ chunk) r
    pub error_stored : IfErr r (λ e. error_of after ≡ Some e)
    pub error_repeated : IfSome (error_of before) (λ e. (r ≡ Err e) × (after ≡ before))
