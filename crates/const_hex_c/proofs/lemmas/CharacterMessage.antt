-- The message of an invalid character, in a buffer that has space for it.
--
-- `old` and `written` are the buffer before and after, `m` is the message, and `n` the number of its bytes that were
-- written. `c` is the character, `i` its position, and `byte` and `index` are those that the struct has.
use Rattle.std.proofs.Common.{◌≡◌, ◌∙◌, ap, ℕ, ◌-◌, ◌<◌, List, length, take, min, arith, take_all}
use Rattle.const_hex_c.specs.Errors.{message_of_struct}
use Rattle.const_hex_c.specs.declared.error.HexError.{HexError}

-- the struct of the invalid character c at position i
abbrev pub character : ℕ → ℕ → HexError
character c i = record { kind = 3; byte = c; index = i }

-- its message m, in a buffer that held `old`
pub whole_message : (written old m : List ℕ) (n byte index c i : ℕ)
    → n ≡ min (length (message_of_struct (character byte index))) (length old - 1)
    → take n written ≡ take n (message_of_struct (character byte index))
    → byte ≡ c → index ≡ i → message_of_struct (character c i) ≡ m → length m < length old → take n written ≡ m
whole_message written old m n byte index c i count text b at is fits =
    let same : message_of_struct (character byte index) ≡ m = (λ k. message_of_struct (character (b k) (at k))) ∙ is in
    text ∙ ap (take n) same ∙ take_all n m (omega (arith, count, ap length same))
