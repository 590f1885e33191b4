-- The options of `check`, `check-many` and `explain`: the words after their paths.
use Rattle.std.specs.Prelude.{ℕ, ◌-◌, Bool, false, List, [], ◌∷◌, Option, Some, None, codes, filter_map, if◌then◌else◌, length, option_map, slice_get}
use Rattle.std.specs.List.{list_any}
use Rattle.std.specs.Str.{bytes_eq}
use Rattle.rustsec_values.specs.ClosedTables.{from_name}
use Rattle.rustsec_values.specs.Reading.{◌>>=◌}
use Rattle.rustsec_program.specs.declared.keys.Flag.{Flag}
use Rattle.rustsec_program.specs.declared.keys.Flag.TheVariants as flag
use Rattle.rustsec_program.specs.declared.keys.Key.{Key}
use Rattle.rustsec_program.specs.declared.keys.Key.TheVariants as key

-- ---- the words

-- the options that have a value: the word after them
abbrev pub key_name : Key → List ℕ
key_name key.Policy = codes "--policy"
key_name key.Today = codes "--today"
key_name key.Baseline = codes "--baseline"
key_name key.Index = codes "--index"
key_name key.Ignore = codes "--ignore"
key_name key.Deny = codes "--deny"
key_name key.Severity = codes "--severity"
key_name key.Arch = codes "--arch"
key_name key.Os = codes "--os"
key_name key.Format = codes "--format"
key_name key.Color = codes "--color"

abbrev pub keys : List Key
keys =
    key.Policy ∷ key.Today ∷ key.Baseline ∷ key.Index ∷ key.Ignore ∷ key.Deny ∷ key.Severity ∷ key.Arch ∷ key.Os ∷ key.Format ∷ key.Color ∷ []

abbrev pub key_of : List ℕ → Option Key
key_of = from_name key_name keys

-- the options without a value
abbrev pub flag_name : Flag → List ℕ
flag_name flag.AllowEmpty = codes "--allow-empty"
flag_name flag.Null = codes "--null"
flag_name flag.Progress = codes "--progress"

abbrev pub flags : List Flag
flags = flag.AllowEmpty ∷ flag.Null ∷ flag.Progress ∷ []

abbrev pub flag_of : List ℕ → Option Flag
flag_of = from_name flag_name flags

-- ---- lists of options

-- an option: a flag, or a key with its value
pub data CheckOption : Type 0 where
  set : Flag → CheckOption
  valued : Key → List ℕ → CheckOption

-- the options that begin with a flag, or with a key and the value after it
abbrev pub beginning : Option Flag → Option Key → List ℕ → Option (List CheckOption) → Option (List CheckOption) → Option (List CheckOption)
beginning (Some f) k value rest after = option_map (λ is. set f ∷ is) rest
beginning None (Some k) value rest after = option_map (λ is. valued k value ∷ is) after
beginning None None value rest after = None

-- the options that words name, in any order and repeated: the word after a key is its value, whatever it looks like; `None` if another word
-- is among them, or a key is the last
unfoldable pub options_of : List (List ℕ) → Option (List CheckOption)
options_of [] = Some []
options_of (word ∷ []) = flag_of word >>= λ f. Some (set f ∷ [])
options_of (word ∷ next ∷ words) = beginning (flag_of word) (key_of word) next (options_of (next ∷ words)) (options_of words)

-- ---- what they say

-- the value that an option gives a key, if it does
abbrev pub value_for : Key → CheckOption → Option (List ℕ)
value_for k (set f) = None
value_for k (valued l value) = if bytes_eq (key_name l) (key_name k) then Some value else None

-- the values of a key, in order
abbrev pub values_of : Key → List CheckOption → List (List ℕ)
values_of k items = filter_map (value_for k) items

-- the last of some values
abbrev pub last : {A : Type 0} → List A → Option A
last xs = slice_get xs (length xs - 1)

-- the value of a key that counts once: the last one
abbrev pub last_value : Key → List CheckOption → Option (List ℕ)
last_value k items = last (values_of k items)

abbrev pub sets : Flag → CheckOption → Bool
sets f (set g) = bytes_eq (flag_name g) (flag_name f)
sets f (valued k value) = false

-- whether a flag is among the options
abbrev pub has : Flag → List CheckOption → Bool
has f items = list_any (sets f) items
