-- The messages of errors, as bytes.
use Rattle.std.specs.Prelude.{ℕ, ◌==◌, ◌&&◌, ◌||◌, nat_lt, nat_le, Bool, if◌then◌else◌, List, ◌++◌, codes, Option, Some, None, decimal}
use Rattle.std.specs.Char.{encode_utf8, is_ascii}
use Rattle.std.specs.Char.Escape.{escape_unicode}
use Rattle.const_hex.specs.declared.error.FromHexError.{FromHexError}
use Rattle.const_hex.specs.declared.error.FromHexError.TheVariants.{OddLength, InvalidStringLength, InvalidHexCharacter, NoMemory}

-- whether the character c, below 256, is a control character, a no-break space or a soft hyphen
abbrev pub is_unprintable : ℕ → Bool
is_unprintable c = nat_lt c 32 || (nat_le 127 c && nat_le c 160) || (c == 173)

-- how `{:?}` shows the character c, below 256, between the quotes
abbrev pub shown : ℕ → List ℕ
shown c = if c == 0 then codes "\\0"
    else (if c == 9 then codes "\\t"
    else (if c == 10 then codes "\\n"
    else (if c == 13 then codes "\\r"
    else (if c == 39 then codes "\\'"
    else (if c == 92 then codes "\\\\"
    else (if is_unprintable c then escape_unicode c else encode_utf8 c))))))

-- the message of an error; that of an invalid character is right for one below 256
abbrev pub message_text : FromHexError → List ℕ
message_text OddLength = codes "odd number of digits"
message_text InvalidStringLength = codes "invalid string length"
message_text (InvalidHexCharacter c i) = codes "invalid character '" ++ shown c ++ codes "' at position " ++ decimal i
message_text NoMemory = codes "out of memory"

-- the message of an error, if its contract says so: the standard library's contract says how `{:?}` shows a
-- character if that is ASCII
abbrev pub message_of : FromHexError → Option (List ℕ)
message_of OddLength = Some (message_text OddLength)
message_of InvalidStringLength = Some (message_text InvalidStringLength)
message_of (InvalidHexCharacter c i) = if is_ascii c then Some (message_text (InvalidHexCharacter c i)) else None
message_of NoMemory = Some (message_text NoMemory)
