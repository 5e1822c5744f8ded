-- How a text is written: the flags that C passes.
use Rattle.std.specs.Prelude.{ℕ, ◌<◌, ◌+◌, ◌/◌, ◌%◌, ◌==◌, Bool, if◌then◌else◌, List, [], ◌∷◌, drop}
use Rattle.const_hex.specs.Texts.{text_length}

-- only known flags: 1 asks for uppercase digits, 2 for a prefix, and 4 for no NUL
abbrev pub AreFlags : ℕ → Type 0
AreFlags flags = flags < 8

-- whether digits are in uppercase
abbrev pub is_upper : ℕ → Bool
is_upper flags = flags % 2 == 1

-- whether `0x` is written before the digits
abbrev pub has_prefix : ℕ → Bool
has_prefix flags = flags / 2 % 2 == 1

-- whether a NUL is written after the text
abbrev pub has_nul : ℕ → Bool
has_nul flags = flags / 4 % 2 == 0

-- the size of the text of n bytes, with its NUL if it has one
abbrev pub size_of : ℕ → ℕ → ℕ
size_of flags n = text_length (has_prefix flags) n + (if has_nul flags then 1 else 0)

-- what follows a text of m bytes in a buffer that held `old`: a NUL if one is written, and the rest
abbrev pub after_text : ℕ → ℕ → List ℕ → List ℕ
after_text flags m old = if has_nul flags then 0 ∷ drop (m + 1) old else drop m old

-- the buffer with a NUL at its start, if it has space for one
abbrev nul_first : List ℕ → List ℕ
nul_first [] = []
nul_first (b ∷ bs) = 0 ∷ bs

-- the buffer as the empty string, unless no NUL is written
abbrev pub cleared : ℕ → List ℕ → List ℕ
cleared flags bs = if has_nul flags then nul_first bs else bs
