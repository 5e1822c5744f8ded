-- What the arguments of the program ask for.
--
-- `o` and `p` are the options so far and after one more, `a` is an argument, `i` its index, and `v` the value of an
-- option. `words` are arguments.
use Rattle.std.specs.Prelude.{◌≡◌, ◌⊎◌, ◌++◌, ℕ, ◌+◌, ◌-◌, ◌*◌, ◌^◌, ◌==◌, nat_lt, min, ◌&&◌, ◌||◌, not, true, false, if◌then◌else◌, Bool, List, [], ◌∷◌, length, Option, Some, None, Result, Ok, Err, codes, is_some, unwrap_or}
use Rattle.std.specs.Char.{is_ascii_hexdigit}
use Rattle.std.specs.List.{after_first, before_first, list_any, position_or_len}
use Rattle.std.specs.Str.{all_ascii_digits, bytes_eq}
use Rattle.std.specs.Str.Parse.{digits_value}
use Rattle.hexfilter_core.specs.Dumps.{Groups, Reading}
use Rattle.hexfilter_core.specs.Runs.{Decode, Encode, Mode}
pub use Rattle.hexfilter_core.specs.declared.options.UsageErrorKind.{UsageErrorKind}
pub use Rattle.hexfilter_core.specs.declared.options.UsageErrorKind.TheVariants.{UnknownOption, MissingValue, InvalidNumber, InvalidSeparator, GroupsInLines, SecondFile}
pub use Rattle.hexfilter_core.specs.declared.options.Options.{Options}
pub use Rattle.hexfilter_core.specs.declared.options.Request.{Request}
pub use Rattle.hexfilter_core.specs.declared.options.Request.TheVariants.{Help, Version, Run}
pub use Rattle.hexfilter_core.specs.declared.options.UsageError.{UsageError}
pub use Rattle.hexfilter_core.specs.declared.options.Value.{Value}
pub use Rattle.hexfilter_core.specs.declared.options.Value.TheVariants.{Size, Separator}

-- ---- the options

-- what may follow the first dash of each option, a letter or a dash and a name, and what it sets. The last three take
-- a value: the columns of lines, the bytes of groups, or the separator of groups. --upper, --prefix and --wrap are for
-- bytes that are encoded, --ignore-whitespace is for a text that is decoded, and each mode takes all of them
abbrev pub option_table : Options → List (List (List ℕ) × Options)
option_table o =
    (codes "d" ∷ codes "-decode" ∷ [], record o { decode = true })
    ∷ (codes "-check" ∷ [], record o { check = true })
    ∷ (codes "u" ∷ codes "-upper" ∷ [], record o { upper = true })
    ∷ (codes "p" ∷ codes "-prefix" ∷ [], record o { prefix = true })
    ∷ (codes "i" ∷ codes "-ignore-whitespace" ∷ codes "-ignore-newlines" ∷ [], record o { ignore_whitespace = true })
    ∷ (codes "h" ∷ codes "-help" ∷ [], record o { help = true })
    ∷ (codes "V" ∷ codes "-version" ∷ [], record o { version = true })
    ∷ (codes "w" ∷ codes "-wrap" ∷ [], record o { wrapped = true; value = Some Size })
    ∷ (codes "g" ∷ codes "-group" ∷ [], record o { grouped = true; value = Some Size })
    ∷ (codes "s" ∷ codes "-separator" ∷ [], record o { grouped = true; value = Some Separator })
    ∷ []

-- the options with the one that the key names, of a table of options
abbrev pub find_option : List ℕ → List (List (List ℕ) × Options) → Result Options UsageErrorKind
find_option key [] = Err UnknownOption
find_option key (row ∷ rows) = if list_any (λ k. bytes_eq key k) row.0 then Ok row.1 else find_option key rows

-- the number that decimal digits write, if it is below 2^64
abbrev pub number : List ℕ → Result ℕ UsageErrorKind
number v = if nat_lt 0 (length v) && all_ascii_digits v && nat_lt (digits_value 10 v) (2 ^ 64) then Ok
    (digits_value 10 v) else Err InvalidNumber

-- an ASCII character that is neither a hexadecimal digit nor a newline (10)
unfoldable pub is_separator : ℕ → Bool
is_separator b = nat_lt b 128 && not (b == 10) && not (is_ascii_hexdigit b)

-- f of the value, or the error
abbrev pub and_then : {A : Type 0} → Result A UsageErrorKind → (A → Result Options UsageErrorKind)
    → Result Options UsageErrorKind
and_then (Ok a) f = f a
and_then (Err e) f = Err e

-- the options, with v as the value of the option that waits for one
abbrev pub with_value : Option Value → Options → List ℕ → Result Options UsageErrorKind
with_value None o v = Err UnknownOption
with_value (Some Size) o v = and_then (number v) (λ n. Ok (record o { size = Some n; value = None }))
with_value (Some Separator) o (b ∷ []) =
    if is_separator b then Ok (record o { separator = Some b; value = None }) else Err InvalidSeparator
with_value (Some Separator) o v = Err InvalidSeparator

-- ---- the arguments

-- letters, of which one may be followed by its value
unfoldable pub with_letters : Options → List ℕ → Result Options UsageErrorKind
with_letters o [] = Ok o
with_letters o (c ∷ t) =
    and_then (find_option (c ∷ []) (option_table o))
    (λ p. if is_some p.value && nat_lt 0 (length t) then with_value p.value p t else with_letters p t)

-- letters after a dash (45), a name after two, which may have a value after an equals sign (61), or else a file
abbrev pub dashed : Options → Result Options UsageErrorKind → List ℕ → Result Options UsageErrorKind
dashed o file [] = file
dashed o file (c ∷ []) = file
dashed o file (c ∷ d ∷ t) =
    let is_equals : ℕ → Bool = λ b. b == 61 in
    let key : List ℕ = d ∷ t in
    if not (c == 45) then file
    else if not (d == 45) then with_letters o key
    else if bytes_eq t [] then Ok (record o { only_files = true })
    else if position_or_len is_equals key == length key then find_option key (option_table o)
    else and_then (find_option (before_first is_equals key) (option_table o)) (λ p. with_value p.value p (after_first is_equals key))

-- the options after the argument a, which has the number i
abbrev pub with_word : Options → ℕ → List ℕ → Result Options UsageErrorKind
with_word o i a =
    let file : Result Options UsageErrorKind =
    if is_some o.file then Err SecondFile else Ok (record o { file = Some i }) in
    if is_some o.value then with_value o.value o a else if o.only_files then file else dashed o file a

-- lines have no groups
abbrev pub with_argument : Options → ℕ → List ℕ → Result Options UsageErrorKind
with_argument o i a = and_then (with_word o i a) (λ p. if p.wrapped && p.grouped then Err GroupsInLines else Ok p)

-- the request of the options, after `count` arguments. --wrap has no effect where text is decoded
abbrev pub request : Options → ℕ → Result Request UsageError
request o count =
    let groups : Groups =
    if o.grouped then record { size = min (unwrap_or o.size 1 * 2) (2 ^ 64 - 1); separator = unwrap_or o.separator 32 }
    else record { size = if o.check || o.decode then 0 else unwrap_or o.size 0; separator = 10 } in
    let r : Reading = record { is_check = o.check; ignore_whitespace = o.ignore_whitespace; groups = groups } in
    let m : Mode = if o.check || o.decode then Decode r else Encode o.prefix o.upper groups in
    if is_some o.value then Err (record { kind = MissingValue; index = count - 1 })
    else if o.help then Ok Help else if o.version then Ok Version else Ok (Run m o.file)

-- f of the options that the argument i leads to, or its error
abbrev pub at_argument : ℕ → Result Options UsageErrorKind → (Options → Result Request UsageError) → Result Request UsageError
at_argument i (Ok o) f = f o
at_argument i (Err e) f = Err (record { kind = e; index = i })

-- the arguments from the number i on
unfoldable pub with_arguments : Options → ℕ → List (List ℕ) → Result Request UsageError
with_arguments o i [] = request o i
with_arguments o i (a ∷ rest) = at_argument i (with_argument o i a) (λ p. with_arguments p (i + 1) rest)

-- no option is set yet
abbrev pub no_options : Options
no_options = record {
  decode = false;
  check = false;
  upper = false;
  prefix = false;
  ignore_whitespace = false;
  help = false;
  version = false;
  wrapped = false;
  grouped = false;
  size = None;
  separator = None;
  file = None;
  value = None;
  only_files = false;
}

-- what the arguments ask for
abbrev pub request_for : List (List ℕ) → Result Request UsageError
request_for arguments = with_arguments no_options 0 arguments

-- ---- the arguments that ask for a mode

-- the name, if it is wanted
abbrev pub flag : Bool → List ℕ → List (List ℕ)
flag wanted name = if wanted then name ∷ [] else []

-- those of a mode, and then the words of its groups
abbrev pub arguments_of : Mode → List (List ℕ) → List (List ℕ)
arguments_of (Encode prefix upper groups) words =
    flag prefix (codes "--prefix") ++ (flag upper (codes "--upper") ++ words)
arguments_of (Decode r) words =
    (if r.is_check then codes "--check" else codes "--decode") ∷ flag r.ignore_whitespace
    (codes "--ignore-whitespace") ++ words

-- the words ask for the groups, by their bytes, of which each has two characters, and by the separator
abbrev pub WritesGroups : Groups → List (List ℕ) → Type 0
WritesGroups g words =
    (v : List ℕ) × (n : ℕ) × (number v ≡ Ok n) × (g.size ≡ min (n * 2) (2 ^ 64 - 1))
    × (is_separator g.separator ≡ true)
    × (words ≡ codes "--group" ∷ v ∷ codes "--separator" ∷ (g.separator ∷ []) ∷ [])

-- without words, there are no groups
abbrev pub IsPlain : Groups → List (List ℕ) → Type 0
IsPlain g words = (words ≡ []) × (g ≡ record { size = 0; separator = 10 })

-- the words ask for the groups of a mode: lines, if they are written, by their columns, other groups by their bytes
-- and the separator
abbrev pub AsksFor : Mode → List (List ℕ) → Type 0
AsksFor (Encode prefix upper g) words =
    ((v : List ℕ) × (number v ≡ Ok g.size) × (g.separator ≡ 10) × (words ≡ codes "--wrap" ∷ v ∷ []))
    ⊎ IsPlain g words ⊎ WritesGroups g words
AsksFor (Decode r) words = IsPlain r.groups words ⊎ WritesGroups r.groups words

-- the arguments ask for the mode
abbrev pub AreFor : Mode → List (List ℕ) → Type 0
AreFor m arguments = (words : List (List ℕ)) × AsksFor m words × (arguments ≡ arguments_of m words)
