-- The options of `lint-database`: the words after its root.
use Rattle.std.specs.Prelude.{ℕ, Bool, true, false, List, [], ◌∷◌, Option, Some, None, codes, option_map}
use Rattle.std.specs.List.{fold, list_any}
use Rattle.std.specs.Str.{bytes_eq}
use Rattle.rustsec_values.specs.ClosedTables.{from_name}
use Rattle.rustsec_values.specs.Reading.{◌>>=◌}
use Rattle.rustsec_database_commands.specs.declared.options.Flag.{Flag}
use Rattle.rustsec_database_commands.specs.declared.options.Flag.TheVariants as flag

-- ---- the words

-- the options without a value
abbrev pub flag_name : Flag → List ℕ
flag_name flag.Upstream = codes "--upstream"
flag_name flag.Progress = codes "--progress"

abbrev pub flags : List Flag
flags = flag.Upstream ∷ flag.Progress ∷ []

abbrev pub flag_of : List ℕ → Option Flag
flag_of = from_name flag_name flags

-- whether a word is the option with a value: the word after it
abbrev pub is_format : List ℕ → Bool
is_format word = bytes_eq word (codes "--format")

-- ---- lists of options

-- an option: a flag, or a format by its name
pub data LintOption : Type 0 where
  set : Flag → LintOption
  format : List ℕ → LintOption

-- the options that begin with a flag, or with `--format` and the value after it
abbrev pub beginning : Option Flag → Bool → List ℕ → Option (List LintOption) → Option (List LintOption) → Option (List LintOption)
beginning (Some f) is value rest after = option_map (λ os. set f ∷ os) rest
beginning None true value rest after = option_map (λ os. format value ∷ os) after
beginning None false value rest after = None

-- the options that words name, in any order and repeated: the word after `--format` is its value, whatever it looks like; `None` if another word
-- is among them, or `--format` is the last
unfoldable pub options_of : List (List ℕ) → Option (List LintOption)
options_of [] = Some []
options_of (word ∷ []) = flag_of word >>= λ f. Some (set f ∷ [])
options_of (word ∷ next ∷ words) = beginning (flag_of word) (is_format word) next (options_of (next ∷ words)) (options_of words)

-- ---- what they ask for

abbrev pub sets : Flag → LintOption → Bool
sets f (set g) = bytes_eq (flag_name g) (flag_name f)
sets f (format name) = false

-- whether a flag is among the options
abbrev pub has : Flag → List LintOption → Bool
has f options = list_any (sets f) options

abbrev pub later_format : Option (List ℕ) → LintOption → Option (List ℕ)
later_format found (set f) = found
later_format found (format name) = Some name

-- the format that counts: the last one
abbrev pub last_format : List LintOption → Option (List ℕ)
last_format options = fold later_format None options

-- what is asked for: a format, if one is named; whether what the Rust crate refuses is a fault; and whether progress is shown
pub record AskedValue : Type 0 where
  pub format : Option (List ℕ)
  pub upstream : Bool
  pub progress : Bool

abbrev pub asked_by : List LintOption → AskedValue
asked_by options = record { format = last_format options; upstream = has flag.Upstream options; progress = has flag.Progress options }

-- what words ask for; `None` if they are not options
abbrev pub asked_of : List (List ℕ) → Option AskedValue
asked_of words = option_map asked_by (options_of words)
