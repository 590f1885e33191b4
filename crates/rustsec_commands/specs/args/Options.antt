-- The options of `audit`: the words after its two paths.
use Rattle.std.specs.Prelude.{ℕ, Bool, true, false, List, [], ◌∷◌, Option, Some, None, codes, option_map, if◌then◌else◌}
use Rattle.std.specs.Str.{bytes_eq}

-- the texts of the IDs that are ignored, in order, and whether warnings are denied
pub record Options : Type 0 where
  pub ignored : List (List ℕ)
  pub deny_warnings : Bool

abbrev pub no_options : Options
no_options = record { ignored = []; deny_warnings = false }

abbrev pub with_ignored : List ℕ → Options → Options
with_ignored id o = record { ignored = id ∷ o.ignored; deny_warnings = o.deny_warnings }

abbrev pub with_denied : Options → Options
with_denied o = record { ignored = o.ignored; deny_warnings = true }

-- the options that words name: `--deny-warnings`, or `--ignore` and the word after it, whatever it looks like, in any order and repeated; `None` if another
-- word is among them, or `--ignore` is the last
unfoldable pub options_of : List (List ℕ) → Option Options
options_of [] = Some no_options
options_of (word ∷ []) = if bytes_eq word (codes "--deny-warnings") then Some (with_denied no_options) else None
options_of (word ∷ next ∷ words) =
    if bytes_eq word (codes "--deny-warnings") then option_map with_denied (options_of (next ∷ words))
    else if bytes_eq word (codes "--ignore") then option_map (with_ignored next) (options_of words)
    else None
