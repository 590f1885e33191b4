-- The JSON trees of values, of lists of them, and of those that may be missing.
use Rattle.std.specs.Prelude.{ℕ, List, map, Option, Some, None}
use Rattle.serde_json.specs.Data.{Data, array, null, string}
use Rattle.serde_json.specs.View.{items_of}

-- a list of values: an array of their trees, in order
abbrev pub list_tree : {A : Type 0} → (A → Data) → List A → Data
list_tree tree xs = array (items_of (map tree xs))

-- a value that may be missing: null if it is
abbrev pub optional_tree : {A : Type 0} → (A → Data) → Option A → Data
optional_tree tree None = null
optional_tree tree (Some x) = tree x

-- a text
abbrev pub text_tree : List ℕ → Data
text_tree text = string text
