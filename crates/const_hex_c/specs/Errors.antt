-- An error as C has it.
use Rattle.std.specs.Prelude.{◌≡◌, ◌==◌, ◌&&◌, nat_lt, if◌then◌else◌, ℕ, List, []}
use Rattle.const_hex.specs.Messages.{message_text}
use Rattle.const_hex.specs.declared.error.FromHexError.{FromHexError}
use Rattle.const_hex.specs.declared.error.FromHexError.TheVariants.{OddLength, InvalidStringLength, InvalidHexCharacter, NoMemory}
use Rattle.const_hex_c.specs.declared.error.HexError.{HexError}

-- the kind, the byte and the position of an error; only an invalid character has the last two
abbrev pub struct_of : FromHexError → HexError
struct_of OddLength = record { kind = 1; byte = 0; index = 0 }
struct_of InvalidStringLength = record { kind = 2; byte = 0; index = 0 }
struct_of (InvalidHexCharacter c i) = record { kind = 3; byte = c; index = i }
struct_of NoMemory = record { kind = 4; byte = 0; index = 0 }

-- the struct r stands for an error e, and `holds e` is true
abbrev pub StandsFor : HexError → (FromHexError → Type 0) → Type 0
StandsFor r holds = (e : FromHexError) × (r ≡ struct_of e) × holds e

-- the message of a struct: empty if it has another kind, or a character that is no byte
abbrev pub message_of_struct : HexError → List ℕ
message_of_struct r = if r.kind == 1 then message_text OddLength
    else (if r.kind == 2 then message_text InvalidStringLength
    else (if (r.kind == 3) && nat_lt r.byte 256 then message_text (InvalidHexCharacter r.byte r.index)
    else (if r.kind == 4 then message_text NoMemory else [])))
