-- The notes on a policy: what it asks for that this library does not do, and which of its keys have no effect here.
-- Without a key nothing is asked for.
use Rattle.std.specs.Prelude.{◌++◌, ◌&&◌, not, ℕ, Bool, true, false, if◌then◌else◌, List, [], ◌∷◌, Option, Some, None, codes, is_some, unwrap_or}
use Rattle.std.specs.List.{join_by, list_any}
use Rattle.rustsec_policy.specs.declared.policy.Policy.{Policy}
use Rattle.rustsec_policy.specs.declared.unused.DatabasePolicy.{DatabasePolicy}
use Rattle.rustsec_policy.specs.declared.unused.YankedPolicy.{YankedPolicy}
use Rattle.rustsec_policy.specs.declared.choices.Denied.{Denied}
use Rattle.rustsec_policy.specs.declared.choices.Denied.TheVariants as denied
use Rattle.rustsec_policy.specs.declared.choices.PackageSource.{PackageSource}
use Rattle.rustsec_policy.specs.declared.choices.PackageSource.TheVariants as source

-- ---- the network

-- whether a table asks for the network: as `fetch` says, or without it by an address
abbrev pub database_asks : DatabasePolicy → Bool
database_asks d = unwrap_or d.fetch (is_some d.url)

-- as `enabled` says, or without it as `update_index` says, unless an index in a folder is asked
abbrev pub yanked_asks : Bool → YankedPolicy → Bool
yanked_asks has_index y = not has_index && unwrap_or y.enabled (unwrap_or y.update_index false)

-- the note on the tables that ask for the network
abbrev pub network_note : Bool → Bool → Option (List ℕ)
network_note false false = None
network_note true false =
    Some (codes "[database] asks for the network, which is not used: the database is read from its folder as it is")
network_note false true =
    Some (codes "[yanked] asks for the network, which is not used: no registry is asked which versions are yanked")
network_note true true =
    Some (codes "[database] and [yanked] ask for the network, which is not used: the database is read from its folder as it is, and no registry is asked which versions are yanked")

-- ---- words that are not followed

-- the note on the packages that are looked at
abbrev pub package_note : Option PackageSource → Option (List ℕ)
package_note None = None
package_note (Some source.All) =
    Some (codes "`source = \"all\"` in [packages] is not followed: only packages of the default registry are checked")
package_note (Some source.Public) = None
package_note (Some source.Local) =
    Some (codes "`source = \"local\"` in [packages] is not followed: only packages of the default registry are checked")

abbrev pub is_yanked : Denied → Bool
is_yanked denied.Warnings = false
is_yanked denied.Unmaintained = false
is_yanked denied.Unsound = false
is_yanked denied.Yanked = true

-- the note on the denied word that fits no finding without an index
abbrev pub yanked_note : Bool → Option (List ℕ)
yanked_note false = None
yanked_note true = Some (codes "`yanked` at `deny` in [output] denies nothing without an index: no package is looked up")

-- ---- keys without effect

-- the list of a text, if any
abbrev pub given : Option (List ℕ) → List (List ℕ)
given None = []
given (Some text) = text ∷ []

-- a key's name, if a file gives the key
abbrev pub name_if : Bool → List ℕ → Option (List ℕ)
name_if is_given name = if is_given then Some name else None

-- the names of the keys that a policy gives and that have no effect
abbrev pub idle_keys : Bool → Policy → List (List ℕ)
idle_keys has_index p =
    (((given (name_if (is_some p.output.quiet) (codes "`quiet` in [output]"))
    ++ given (name_if (is_some p.output.show_tree) (codes "`show_tree` in [output]")))
    ++ given (name_if (is_some p.database.path) (codes "`path` in [database]")))
    ++ given (name_if (is_some p.database.stale) (codes "`stale` in [database]")))
    ++ given (name_if (has_index && is_some p.yanked.update_index) (codes "`update_index` in [yanked]"))

-- the note on these keys
abbrev pub idle_note : List (List ℕ) → Option (List ℕ)
idle_note [] = None
idle_note (name ∷ names) = Some (codes "keys without effect here: " ++ join_by (λ n. n) (codes ", ") (name ∷ names))

-- ---- all notes

-- the notes on a policy, by whether an index in a folder is asked
abbrev pub notes_of : Bool → Policy → List (List ℕ)
notes_of has_index p =
    ((given (network_note (database_asks p.database) (yanked_asks has_index p.yanked))
    ++ given (package_note p.packages.source))
    ++ given (yanked_note (not has_index && list_any is_yanked p.output.deny)))
    ++ given (idle_note (idle_keys has_index p))
