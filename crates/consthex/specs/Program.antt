-- The program: its modes, its result for an input, and its errors.
--
-- `m` is a mode, `x` an input, `bs` are the bytes of an output, and `e` is an error of the text. `DecodesTo t r` says
-- that a text t decodes to the result r, and `Checks t r` that a check of it has that result.
use Rattle.std.specs.Prelude.{ℕ, List, codes, ◌≡◌, ◌⊎◌, ⊤, ◌<◌, ◌≤◌, true, false, [], ◌∷◌, ◌++◌, length, Result, Ok, Err, Option, Some, if◌then◌else◌}
use Rattle.consthex.specs.declared.mode.Mode.{Mode}
use Rattle.consthex.specs.declared.mode.Mode.TheVariants.{Encode, EncodeUpper, EncodePrefixed, EncodeUpperPrefixed, Decode, Check}
use Rattle.std.specs.Io.BufRead.{strip_last}
use Rattle.const_hex.specs.Prelude.{full_text, message_of, IsEven, DecodesTo, Checks, is_no_memory, WritesBeginning}
use Rattle.const_hex.specs.declared.error.FromHexError.{FromHexError}
use Rattle.consthex.specs.declared.error.RunError.{RunError}
use Rattle.consthex.specs.declared.error.RunError.TheVariants.{Text, ReadFailed, WriteFailed, TooLong, NoMemory}
use Rattle.std.specs.Io.KnownBytes.{Appends, Consumes, IsAtEnd, Keeps}

-- ---- the argument of each mode

-- the argument that names a mode
abbrev pub word_of : Mode → List ℕ
word_of Encode = codes "encode"
word_of EncodeUpper = codes "encode-upper"
word_of EncodePrefixed = codes "encode-prefixed"
word_of EncodeUpperPrefixed = codes "encode-upper-prefixed"
word_of Decode = codes "decode"
word_of Check = codes "check"

-- ---- the result for an input

-- the maximum length of an input
abbrev pub limit : ℕ
limit = 1048576

-- one newline
abbrev pub newline : List ℕ
newline = 10 ∷ []

-- a text without a trailing newline, of which at most one is removed
abbrev pub without_newline : List ℕ → List ℕ
without_newline x = strip_last 10 x

-- the output of the mode for the input x is bs
abbrev pub Outputs : Mode → List ℕ → List ℕ → Type 0
Outputs Encode x bs = bs ≡ full_text false false x ++ newline
Outputs EncodeUpper x bs = bs ≡ full_text false true x ++ newline
Outputs EncodePrefixed x bs = bs ≡ full_text true false x ++ newline
Outputs EncodeUpperPrefixed x bs = bs ≡ full_text true true x ++ newline
Outputs Decode x bs = DecodesTo (without_newline x) (Ok bs)
Outputs Check x bs = Checks (without_newline x) (Ok tt) × (bs ≡ codes "ok" ++ newline)

-- the text in the input x has the error e in this mode
abbrev pub Fails : Mode → List ℕ → FromHexError → Type 0
Fails Encode x e = ⊥
Fails EncodeUpper x e = ⊥
Fails EncodePrefixed x e = ⊥
Fails EncodeUpperPrefixed x e = ⊥
Fails Decode x e = DecodesTo (without_newline x) (Err e)
Fails Check x e = Checks (without_newline x) (Err e)

-- r is the result of the mode for the input x. Each input has one result
abbrev pub IsResult : Mode → List ℕ → Result (List ℕ) RunError → Type 0
IsResult m x (Ok bs) = (length x ≤ limit) × Outputs m x bs
IsResult m x (Err (Text e)) = (length x ≤ limit) × Fails m x e
IsResult m x (Err TooLong) = limit < length x
IsResult m x (Err ReadFailed) = ⊥
IsResult m x (Err WriteFailed) = ⊥
IsResult m x (Err NoMemory) = ⊥

-- the mode may allocate for the input x: `decode` only if the length is even, and `check` only
-- if the text is accepted
abbrev pub MayAllocate : Mode → List ℕ → Type 0
MayAllocate Encode x = ⊤
MayAllocate EncodeUpper x = ⊤
MayAllocate EncodePrefixed x = ⊤
MayAllocate EncodeUpperPrefixed x = ⊤
MayAllocate Decode x = IsEven (length (without_newline x))
MayAllocate Check x = Checks (without_newline x) (Ok tt)

-- ---- what a run reads and writes
--
-- `in_before` and `in_after` are the bytes that the reader still has, before and after the run; `out_before`
-- and `out_after` are those that the writer holds. They are None if a contract cannot know them.

-- the reader was read to its end, and x is what was read
abbrev pub ReadsAll : Option (List ℕ) → Option (List ℕ) → List ℕ → Type 0
ReadsAll in_before in_after x = Consumes in_before in_after x × IsAtEnd in_after

-- the reader was read to its end, and r is the result of the mode for what was read
abbrev pub IsResultOfInput : Mode → Option (List ℕ) → Option (List ℕ) → Result (List ℕ) RunError → Type 0
IsResultOfInput m in_before in_after r = (x : List ℕ) × ReadsAll in_before in_after x × IsResult m x r

-- what a run in the mode did that ended with this exit status: with 0, the whole result for the input was written;
-- with 1, the result is an error of the text; with 3, at most a beginning of the result was written; with 1 and 4,
-- nothing was written
abbrev pub Ends : Mode → ℕ → Option (List ℕ) → Option (List ℕ) → Option (List ℕ) → Option (List ℕ) → Type 0
Ends m status in_before in_after out_before out_after =
    (status ≡ 0 → (bs : List ℕ) × IsResultOfInput m in_before in_after (Ok bs) × Appends out_before out_after bs)
    × (status ≡ 1 → (e : FromHexError) × IsResultOfInput m in_before in_after (Err (Text e))
    × Keeps out_before out_after)
    × (status ≡ 3 → Keeps out_before out_after ⊎ ((bs : List ℕ) × IsResultOfInput m in_before in_after (Ok bs)
    × WritesBeginning out_before out_after bs))
    × (status ≡ 4 → Keeps out_before out_after)

-- ---- the message and the exit status of an error

-- the message that is printed, if the contract of the error specifies it
abbrev pub line_of : RunError → Option (List ℕ)
line_of (Text e) = message_of e
line_of ReadFailed = Some (codes "read failed")
line_of WriteFailed = Some (codes "write failed")
line_of TooLong = Some (codes "input too long")
line_of NoMemory = Some (codes "out of memory")

-- the exit status of the program for an error
abbrev pub status_of : RunError → ℕ
status_of (Text e) = 1
status_of ReadFailed = 3
status_of WriteFailed = 3
status_of TooLong = 3
status_of NoMemory = 4

-- the error of the program for an error of `const_hex`
abbrev pub run_error_of : FromHexError → RunError
run_error_of e = if is_no_memory e then NoMemory else Text e
