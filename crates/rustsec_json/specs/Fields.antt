-- The values at the keys of an object of a JSON tree (RFC 8259, sections 4 and 5).
use Rattle.std.specs.Prelude.{ℕ, List, [], ◌∷◌, Option, Some, None, if◌then◌else◌, is_some, option_map}
use Rattle.serde_json.specs.Data.{Data, Items, no_items, item, Members}
use Rattle.serde_json.specs.Find.{as_array, as_null, as_str, get_member}
use Rattle.rustsec_values.specs.Reading.{◌>>=◌, read_all, value_or}

-- the items of an array as a list
abbrev pub list_of : Items → List Data
list_of no_items = []
list_of (item d ds) = d ∷ list_of ds

-- a text that a reader accepts
abbrev pub text : {A : Type 0} → (List ℕ → Option A) → Data → Option A
text f d = as_str d >>= f

-- an array whose values a reader accepts
abbrev pub every : {A : Type 0} → (Data → Option A) → Data → Option (List A)
every f d = as_array d >>= λ ds. read_all f (list_of ds)

-- a value that a reader accepts, or null, which means missing
abbrev pub or_null : {A : Type 0} → (Data → Option A) → Data → Option (Option A)
or_null f d = if is_some (as_null d) then Some None else option_map Some (f d)

-- the value at a required key
abbrev pub required : {A : Type 0} → (Data → Option A) → List ℕ → Members → Option A
required f key ms = get_member key ms >>= f

-- the value at a key, or its default if the key is missing; null does not give the default
abbrev pub defaulted : {A : Type 0} → A → (Data → Option A) → List ℕ → Members → Option A
defaulted default f key ms = value_or default f (get_member key ms)

-- the value at a key that may be missing; null means missing too
abbrev pub optional : {A : Type 0} → (Data → Option A) → List ℕ → Members → Option (Option A)
optional f key ms = defaulted None (or_null f) key ms
