-- The keys that the tables of a policy file may have (cargo-audit's `audit.toml`).
use Rattle.std.specs.Prelude.{◌&&◌, ℕ, Bool, true, List, [], ◌∷◌, codes}
use Rattle.std.specs.List.{list_any}
use Rattle.std.specs.Str.{bytes_eq}
use Rattle.toml.specs.Data.{Members, no_members, member}

-- whether a key is one of these
abbrev pub is_one_of : List (List ℕ) → List ℕ → Bool
is_one_of keys key = list_any (bytes_eq key) keys

-- whether a table has these keys alone
abbrev pub has_only : List (List ℕ) → Members → Bool
has_only keys no_members = true
has_only keys (member key d ms) = is_one_of keys key && has_only keys ms

abbrev pub section_keys : List (List ℕ)
section_keys = codes "advisories" ∷ codes "database" ∷ codes "output" ∷ codes "target" ∷ codes "packages" ∷ codes "yanked" ∷ []

abbrev pub advisory_keys : List (List ℕ)
advisory_keys = codes "ignore" ∷ codes "informational_warnings" ∷ codes "severity_threshold" ∷ []

-- those of an entry of `ignore` that is a table: `id` and `reason` as in cargo-deny's `deny.toml`, `until` as here alone
abbrev pub ignored_keys : List (List ℕ)
ignored_keys = codes "id" ∷ codes "reason" ∷ codes "until" ∷ []

abbrev pub output_keys : List (List ℕ)
output_keys = codes "deny" ∷ codes "format" ∷ codes "quiet" ∷ codes "show_tree" ∷ []

abbrev pub target_keys : List (List ℕ)
target_keys = codes "arch" ∷ codes "os" ∷ []

abbrev pub database_keys : List (List ℕ)
database_keys = codes "path" ∷ codes "url" ∷ codes "fetch" ∷ codes "stale" ∷ []

abbrev pub package_keys : List (List ℕ)
package_keys = codes "source" ∷ []

abbrev pub yanked_keys : List (List ℕ)
yanked_keys = codes "enabled" ∷ codes "index" ∷ codes "update_index" ∷ []
