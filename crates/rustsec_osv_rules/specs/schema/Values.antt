-- Rules about the values of a JSON document: what a schema says by `type`, `properties`, `required`, `items` and
-- `additionalProperties` (JSON Schema 2020-12). It carries meaning: public contracts cite it.
use Rattle.std.specs.Prelude.{◌≡◌, ◌⊎◌, ℕ, Bool, true, false, ◌&&◌, ◌||◌, List, Option, Some, None, ⊤, option_map, unwrap_or, is_some}
use Rattle.std.specs.List.{list_any}
use Rattle.std.specs.Str.{bytes_eq}
use Rattle.serde_json.specs.Data.{Data, Items, no_items, item, Members, no_members, member}
use Rattle.serde_json.specs.Find.{as_array, as_null, as_object, as_str, get}
use Rattle.rustsec_json.specs.Codecs.{IfThere}

-- whether the value at a key keeps a rule, if the key is there
abbrev pub optional : List ℕ → (Data → Bool) → Data → Bool
optional key rule d = unwrap_or (option_map rule (get key d)) true

-- whether the key is there, and its value keeps a rule
abbrev pub required : List ℕ → (Data → Bool) → Data → Bool
required key rule d = unwrap_or (option_map rule (get key d)) false

-- whether the key is there
abbrev pub has : List ℕ → Data → Bool
has key d = is_some (get key d)

abbrev pub is_text : Data → Bool
is_text d = is_some (as_str d)

-- whether the value is a text of a form
abbrev pub text_of : (List ℕ → Bool) → Data → Bool
text_of form d = unwrap_or (option_map form (as_str d)) false

abbrev pub is_object : Data → Bool
is_object d = is_some (as_object d)

abbrev pub is_null : Data → Bool
is_null d = is_some (as_null d)

-- null, or a value that keeps a rule
abbrev pub or_null : (Data → Bool) → Data → Bool
or_null rule d = is_null d || rule d

-- whether each item keeps a rule
abbrev pub every : (Data → Bool) → Items → Bool
every rule no_items = true
every rule (item d ds) = rule d && every rule ds

-- whether an item keeps a rule
abbrev pub some : (Data → Bool) → Items → Bool
some rule no_items = false
some rule (item d ds) = rule d || some rule ds

-- whether the value is a list of values that keep a rule
abbrev pub list_of : (Data → Bool) → Data → Bool
list_of rule d = unwrap_or (option_map (every rule) (as_array d)) false

-- whether the value is a list with a value that keeps a rule
abbrev pub list_with : (Data → Bool) → Data → Bool
list_with rule d = unwrap_or (option_map (some rule) (as_array d)) false

-- whether each key is one of these
abbrev pub has_only : List (List ℕ) → Members → Bool
has_only keys no_members = true
has_only keys (member key d ms) = list_any (bytes_eq key) keys && has_only keys ms

-- whether the value is an object with no other keys than these
abbrev pub object_of : List (List ℕ) → Data → Bool
object_of keys d = unwrap_or (option_map (has_only keys) (as_object d)) false

-- ---- the same for rules that are relations

-- a value is there, and keeps a rule
abbrev pub IsThere : {A : Type 0} → (A → Type 0) → Option A → Type 0
IsThere Rule None = ⊥
IsThere Rule (Some x) = Rule x

-- the value at a key keeps a rule, if the key is there
abbrev pub Optional : List ℕ → (Data → Type 0) → Data → Type 0
Optional key Rule d = IfThere Rule (get key d)

-- the key is there, and its value keeps a rule
abbrev pub Required : List ℕ → (Data → Type 0) → Data → Type 0
Required key Rule d = IsThere Rule (get key d)

-- the value is a text of a form
abbrev pub TextOf : (List ℕ → Type 0) → Data → Type 0
TextOf Form d = IsThere Form (as_str d)

-- null, or a value that keeps a rule
abbrev pub OrNull : (Data → Type 0) → Data → Type 0
OrNull Rule d = (is_null d ≡ true) ⊎ Rule d

-- each item keeps a rule
abbrev pub Every : (Data → Type 0) → Items → Type 0
Every Rule no_items = ⊤
Every Rule (item d ds) = Rule d × Every Rule ds

-- the value is a list of values that keep a rule
abbrev pub ListOf : (Data → Type 0) → Data → Type 0
ListOf Rule d = IsThere (Every Rule) (as_array d)
