-- What the file of a name lists, in each form of an index, and where it is damaged.
use Rattle.std.specs.Prelude.{◌≡◌, ◌⊎◌, ◌==◌, ◌<◌, ◌+◌, ◌-◌, ◌++◌, ℕ, Bool, List, [], ◌∷◌, Option, Some, None, codes, count_by, filter_map, length, take}
use Rattle.std.specs.Fmt.{decimal}
use Rattle.std.specs.List.{after_first, before_first}
use Rattle.rustsec_values.specs.Failure.{Failure}
use Rattle.rustsec_values.specs.declared.error.ErrorKind.TheVariants as kind
use Rattle.rustsec_registry.specs.declared.lookup.IndexVersion.{IndexVersion}
use Rattle.rustsec_registry.specs.index.CacheFile.{after_pair, cache_entries, pair_says}
use Rattle.rustsec_registry.specs.index.IndexLines.{line_says}
use Rattle.rustsec_registry.specs.declared.index.form.IndexForm.{IndexForm}
use Rattle.rustsec_registry.specs.declared.index.form.IndexForm.TheVariants as form

abbrev pub is_newline : ℕ → Bool
is_newline b = b == 10

-- the entries of a file: of a checkout the whole file
abbrev pub entries_of : IndexForm → List ℕ → Option (List ℕ)
entries_of form.Checkout file = Some file
entries_of form.Cache file = cache_entries file

-- what the first entry of a text says about a name, none if it is damaged
abbrev pub first_says : IndexForm → List ℕ → List ℕ → Option (Option IndexVersion)
first_says form.Checkout name text = line_says name (before_first is_newline text)
first_says form.Cache name text = pair_says name text

-- the text after its first entry
abbrev pub after_entry : IndexForm → List ℕ → List ℕ
after_entry form.Checkout text = after_first is_newline text
after_entry form.Cache text = after_pair text

-- entries from the beginning of a text on, what each says about a name, and the text after the last one
abbrev pub Entries : IndexForm → List ℕ → List ℕ → List (Option IndexVersion) → List ℕ → Type 0
Entries f name text [] rest = text ≡ rest
Entries f name text (v ∷ vs) rest = (0 < length text) × (first_says f name text ≡ Some v) × Entries f name (after_entry f text) vs rest

-- the versions that entries say
abbrev pub versions_said : List (Option IndexVersion) → List IndexVersion
versions_said said = filter_map (λ (v : Option IndexVersion). v) said

-- the versions that the entries of a text list for a name, in their order, where none is damaged
abbrev pub ListsEntries : IndexForm → List ℕ → List ℕ → List IndexVersion → Type 0
ListsEntries f name text versions = (said : List (Option IndexVersion)) × Entries f name text said [] × (versions ≡ versions_said said)

-- the first damaged entry of a text has this many bytes from its beginning to the end of the text
abbrev pub IsDamagedEntry : IndexForm → List ℕ → List ℕ → ℕ → Type 0
IsDamagedEntry f name text left = (said : List (Option IndexVersion)) × (rest : List ℕ) × Entries f name text said rest
    × ((0 < length rest) × ((first_says f name rest ≡ None) × (left ≡ length rest)))

-- the versions that a file lists for a name
abbrev pub Lists : IndexForm → List ℕ → List ℕ → List IndexVersion → Type 0
Lists f file name versions = (text : List ℕ) × (entries_of f file ≡ Some text) × ListsEntries f name text versions

-- a file is damaged at a number of bytes before its end: at its first damaged entry; at its beginning, if a cache begins
-- otherwise
abbrev pub IsDamaged : IndexForm → List ℕ → List ℕ → ℕ → Type 0
IsDamaged f file name left = ((entries_of f file ≡ None) × (left ≡ length file))
    ⊎ ((text : List ℕ) × (entries_of f file ≡ Some text) × IsDamagedEntry f name text left)

-- ---- the error for a damaged file

-- the number of the line that has this many bytes from its beginning to the end of the file
abbrev pub line_number : List ℕ → ℕ → ℕ
line_number file left = count_by is_newline (take (length file - left) file) + 1

abbrev pub checkout_message : List ℕ → ℕ → List ℕ
checkout_message path line = path ++ (codes ": line " ++ (decimal line ++ codes " is not an entry of a registry's index"))

abbrev pub cache_message : List ℕ → ℕ → List ℕ
cache_message path offset = path ++ (codes ": byte offset " ++ (decimal offset ++ codes " is not an entry of Cargo's cache"))

-- the message names the file, and the line of a checkout or the byte offset in a cache
abbrev pub damage_message : IndexForm → List ℕ → List ℕ → ℕ → List ℕ
damage_message form.Checkout path file left = checkout_message path (line_number file left)
damage_message form.Cache path file left = cache_message path (length file - left)

abbrev pub damage : IndexForm → List ℕ → List ℕ → ℕ → Failure
damage f path file left = record { kind = kind.Parse; message = damage_message f path file left; cause = None }

-- the error for this damaged file
abbrev pub IsDamage : IndexForm → List ℕ → List ℕ → List ℕ → Failure → Type 0
IsDamage f path file name e = (left : ℕ) × IsDamaged f file name left × (e ≡ damage f path file left)
