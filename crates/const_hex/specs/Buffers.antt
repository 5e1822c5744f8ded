-- What a `Buffer` of n bytes holds.
use Rattle.std.specs.Prelude.{ℕ, ◌*◌, Bool, List, ◌++◌, replicate}
use Rattle.const_hex_arch.specs.Texts.{prefix_of}
use Rattle.const_hex.specs.declared.buffer.Buffer.{Buffer}

-- what a buffer holds before any bytes are formatted: `0x` or nothing, and a NUL byte for each digit
abbrev pub blank_text : Bool → ℕ → List ℕ
blank_text prefix n = prefix_of prefix ++ replicate (2 * n) 0

-- the bytes of a buffer
abbrev pub buffer_text : {n prefix len : ℕ} → Buffer n prefix len → List ℕ
buffer_text b = b.text.bytes
