-- The values at the keys of a table of a TOML document.
use Rattle.std.specs.Prelude.{◌==◌, if◌then◌else◌, ℕ, List, [], ◌∷◌, Option, Some, None}
use Rattle.toml.specs.Data.{Data, Items, no_items, item, Members, get_member, as_array, as_str}
use Rattle.rustsec_toml.specs.Places.{skip_mark}
use Rattle.rustsec_values.specs.Reading.{◌>>=◌, read_all, read_optional, value_or}

-- the items of an array as a list
abbrev pub list_of : Items → List Data
list_of no_items = []
list_of (item d ds) = d ∷ list_of ds

-- a string that a reader accepts
abbrev pub text : {A : Type 0} → (List ℕ → Option A) → Data → Option A
text f d = as_str d >>= f

-- an array whose values a reader accepts
abbrev pub every : {A : Type 0} → (Data → Option A) → Data → Option (List A)
every f d = as_array d >>= λ ds. read_all f (list_of ds)

-- the value at a required key
abbrev pub required : {A : Type 0} → (Data → Option A) → List ℕ → Members → Option A
required f key t = get_member key t >>= f

-- the value at a key that may be missing
abbrev pub optional : {A : Type 0} → (Data → Option A) → List ℕ → Members → Option (Option A)
optional f key t = read_optional f (get_member key t)

-- the value at a key, or its default
abbrev pub defaulted : {A : Type 0} → A → (Data → Option A) → List ℕ → Members → Option A
defaulted default f key t = value_or default f (get_member key t)

-- the text that begins in a line of a file, without the byte order mark of the file (RFC 3629, section 6)
abbrev pub unmarked : ℕ → List ℕ → List ℕ
unmarked line text = if line == 1 then skip_mark text else text
