-- What a run writes for its input, its errors, and the exit status of the program.
--
-- `m` is the mode of a run, `x` the input that was read, and `y` the output that was written for it.
use Rattle.std.specs.Prelude.{◌≡◌, ◌≢◌, ◌⊎◌, ℕ, if◌then◌else◌, Bool, true, false, List, [], ◌++◌, Option, None, Some, Result, Ok, Err, codes, get_or, bytes_eq}
use Rattle.std.specs.Io.KnownBytes.{Appends, Consumes, IsAtEnd}
use Rattle.std.specs.IoError.{error_kind}
use Rattle.std.specs.declared.io.ErrorKind.TheVariants.{Interrupted}
pub use Rattle.const_hex.specs.Prelude.{DecodesTo, WritesBeginning}
use Rattle.hexfilter_core.specs.Dumps.{FromHexError, HasError, Location, Reading, SpellsBeginning, encoded, text_of}
pub use Rattle.hexfilter_core.specs.declared.error.RunError.{RunError}
pub use Rattle.hexfilter_core.specs.declared.error.RunError.TheVariants.{Text, Read, Write}
pub use Rattle.hexfilter_core.specs.declared.mode.Mode.{Mode}
pub use Rattle.hexfilter_core.specs.declared.mode.Mode.TheVariants.{Encode, Decode}

-- ---- what is written

-- the bytes that are written of those of a text: all, or none if it is only checked
abbrev pub written : Reading → List ℕ → List ℕ
written r bytes = if r.is_check then [] else bytes

-- the mode's output for the input x is y
abbrev pub Outputs : Mode → List ℕ → List ℕ → Type 0
Outputs (Encode prefix upper groups) x y = y ≡ encoded prefix upper groups x
Outputs (Decode r) x y = (bytes : List ℕ) × DecodesTo (text_of r x) (Ok bytes) × (y ≡ written r bytes)

-- y is a beginning of the mode's output for the input x: in decoding, what some of the first digits decode to
abbrev pub OutputsBeginning : Mode → List ℕ → List ℕ → Type 0
OutputsBeginning (Encode prefix upper groups) x y = (rest : List ℕ) × (encoded prefix upper groups x ≡ y ++ rest)
OutputsBeginning (Decode r) x y = (bytes : List ℕ) × SpellsBeginning r x bytes × (y ≡ written r bytes)

-- the mode fails with the error e at this location, in an input of which x was read; before the error, it writes y
abbrev pub FailsWith : Mode → Option (List ℕ) → List ℕ → List ℕ → FromHexError → Option Location → Type 0
FailsWith (Encode prefix upper groups) in_after x y e location = ⊥
FailsWith (Decode r) in_after x y e location =
    (bytes : List ℕ) × HasError r in_after x bytes e location × (y ≡ written r bytes)

-- the error of a run is this error of the text, at this location
abbrev pub IsErrorOf : Mode → Option (List ℕ) → List ℕ → List ℕ → RunError → Type 0
IsErrorOf m in_after x y (Text e location) = FailsWith m in_after x y e location
IsErrorOf m in_after x y (Read e) = ⊥
IsErrorOf m in_after x y (Write e) = ⊥

-- ---- what a run reads and writes
--
-- `in_before` and `in_after` are the bytes that the reader still has, before and after the run; `out_before` and
-- `out_after` are those that the writer holds. They are None if a contract cannot know them.

-- all of the input is read, and the mode's output for it is written
abbrev pub RunsToEnd : Mode → Option (List ℕ) → Option (List ℕ) → Option (List ℕ) → Option (List ℕ) → Type 0
RunsToEnd m in_before in_after out_before out_after =
    (x : List ℕ) × (y : List ℕ) × Consumes in_before in_after x × IsAtEnd in_after × Outputs m x y
    × Appends out_before out_after y

-- the mode fails with the error e in what is read, and the output before it is written
abbrev pub RunsToError : Mode → Option (List ℕ) → Option (List ℕ) → Option (List ℕ) → Option (List ℕ) → FromHexError
    → Option Location → Type 0
RunsToError m in_before in_after out_before out_after e location =
    (x : List ℕ) × (y : List ℕ) × Consumes in_before in_after x × FailsWith m in_after x y e location
    × Appends out_before out_after y

-- a beginning of the mode's output for what is read is written
abbrev pub RunsPartly : Mode → Option (List ℕ) → Option (List ℕ) → Option (List ℕ) → Option (List ℕ) → Type 0
RunsPartly m in_before in_after out_before out_after =
    (x : List ℕ) × (y : List ℕ) × Consumes in_before in_after x × OutputsBeginning m x y × Appends out_before out_after y

-- ---- errors

-- the error is not that of an interrupted call
abbrev pub IsNotInterrupted : RunError → Type 0
IsNotInterrupted (Text e location) = Unit {0}
IsNotInterrupted (Read e) = error_kind e ≢ Interrupted
IsNotInterrupted (Write e) = error_kind e ≢ Interrupted

-- the error of a read that failed and was not interrupted
abbrev pub IsFailedRead : RunError → Type 0
IsFailedRead (Text e location) = ⊥
IsFailedRead (Read e) = error_kind e ≢ Interrupted
IsFailedRead (Write e) = ⊥

-- the error of a write or a flush that failed and was not interrupted
abbrev pub IsFailedWrite : RunError → Type 0
IsFailedWrite (Text e location) = ⊥
IsFailedWrite (Read e) = ⊥
IsFailedWrite (Write e) = error_kind e ≢ Interrupted

-- ---- exit statuses

-- the exit status of the program after a run
abbrev pub status_of : Result Unit RunError → ℕ
status_of (Ok done) = 0
status_of (Err (Text e location)) = 1
status_of (Err (Read e)) = 3
status_of (Err (Write e)) = 3

-- a run ends with this exit status: 0 at the end of its input, 1 at an error of the text, and 3 anywhere
abbrev pub Ends : Mode → ℕ → Option (List ℕ) → Option (List ℕ) → Option (List ℕ) → Option (List ℕ) → Type 0
Ends m status in_before in_after out_before out_after =
    (status ≡ 0 → RunsToEnd m in_before in_after out_before out_after)
    × (status ≡ 1 → (e : FromHexError) × (location : Option Location)
    × RunsToError m in_before in_after out_before out_after e location)
    × (status ≡ 3 → RunsPartly m in_before in_after out_before out_after)
    × ((status ≡ 0) ⊎ (status ≡ 1) ⊎ (status ≡ 3))

-- as `Ends`, if the run may begin; else the exit status is 3, and nothing is read or written
abbrev pub EndsIf : Bool → Mode → ℕ → Option (List ℕ) → Option (List ℕ) → Option (List ℕ) → Option (List ℕ) → Type 0
EndsIf true m status in_before in_after out_before out_after = Ends m status in_before in_after out_before out_after
EndsIf false m status in_before in_after out_before out_after =
    (status ≡ 3) × (in_after ≡ in_before) × (out_after ≡ out_before)

-- a text is printed with the exit status 0, or a beginning of it with 3
abbrev pub Prints : List ℕ → ℕ → Option (List ℕ) → Option (List ℕ) → Type 0
Prints text status out_before out_after =
    (status ≡ 0 → Appends out_before out_after text) × (status ≡ 3 → WritesBeginning out_before out_after text)
    × ((status ≡ 0) ⊎ (status ≡ 3))

-- the file name in the argument with this index, if there is one and it is not `-`, for standard input
abbrev pub file_name : List (List ℕ) → Option ℕ → Option (List ℕ)
file_name arguments None = None
file_name arguments (Some i) =
    let name : List ℕ = get_or arguments i (codes "-") in if bytes_eq name (codes "-") then None else Some name
