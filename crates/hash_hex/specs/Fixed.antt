-- Values of a fixed number of bytes.
use Rattle.std.specs.Prelude.{ℕ, List, Result}
use Rattle.const_hex.specs.Prelude.{DecodesToExactly, DecodesToValue}
use Rattle.const_hex.specs.declared.error.FromHexError.{FromHexError}
use Rattle.hash_hex.specs.declared.fixed.FixedBytes.{FixedBytes}

-- the bytes of a value
abbrev pub fixed_bytes : {n : ℕ} → FixedBytes n → List ℕ
fixed_bytes v = v.bytes

-- the result when a text is decoded to such a value: that for n bytes
abbrev pub DecodesToFixed : (n : ℕ) → List ℕ → Result (FixedBytes n) FromHexError → Type 0
DecodesToFixed n = DecodesToValue fixed_bytes (λ t r. DecodesToExactly t n r)
