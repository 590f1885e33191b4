-- The edges between the packages of a lockfile: from each package to those that its dependency entries name.
use Rattle.std.specs.Prelude.{◌++◌, ◌==◌, ◌&&◌, not, ℕ, Bool, List, [], ◌∷◌, Option, Some, None, codes, filter_map, length, map, unwrap_or}
use Rattle.std.specs.List.{filter, list_any}
use Rattle.toml.specs.Data.{Data, Items, Members, as_array, as_str}
use Rattle.rustsec_toml.specs.Fields.{list_of}
use Rattle.rustsec_lock.specs.Package.{PackageValue}
use Rattle.rustsec_graph.specs.Candidates.{Candidate, candidates}
use Rattle.rustsec_graph.specs.Entries.{named_by, packages_in, places, value_at, value_in}
use Rattle.rustsec_graph.specs.Paths.{successors}

-- the places that a list of entries names, in their order; a value that is not a list has no entries
abbrev pub targets_of_array : List Candidate → Option Items → List ℕ
targets_of_array cs None = []
targets_of_array cs (Some ds) = filter_map (named_by cs) (list_of ds)

-- likewise for a value that may be missing, which has no entries
abbrev pub targets_of : List Candidate → Option Data → List ℕ
targets_of cs None = []
targets_of cs (Some d) = targets_of_array cs (as_array d)

-- the text by which a note names an entry
abbrev pub entry_text : Data → List ℕ
entry_text d = unwrap_or (as_str d) (codes "(not a string)")

-- a text, unless there is a place
abbrev pub unless_placed : Option ℕ → List ℕ → Option (List ℕ)
unless_placed None text = Some text
unless_placed (Some place) text = None

-- the text of an entry that names no place
abbrev pub unnamed_by : List Candidate → Data → Option (List ℕ)
unnamed_by cs d = unless_placed (named_by cs d) (entry_text d)

-- the texts of the entries of a list that name no place, in their order; a value that is not a list is such an entry
abbrev pub unresolved_of_array : List Candidate → Option Items → List (List ℕ)
unresolved_of_array cs None = codes "(not a list)" ∷ []
unresolved_of_array cs (Some ds) = filter_map (unnamed_by cs) (list_of ds)

-- likewise for a value that may be missing, which has no entries
abbrev pub unresolved_of : List Candidate → Option Data → List (List ℕ)
unresolved_of cs None = []
unresolved_of cs (Some d) = unresolved_of_array cs (as_array d)

-- the values with the entries of a package: a list at `dependencies`, and one entry at `replace`
abbrev pub dependencies_at : Members → ℕ → Option Data
dependencies_at = value_at (codes "dependencies")

abbrev pub replace_at : Members → ℕ → Option Data
replace_at = value_at (codes "replace")

-- a list of the value, if any
abbrev pub as_list : {A : Type 0} → Option A → List A
as_list None = []
as_list (Some x) = x ∷ []

-- the place that the entry at `replace` names
abbrev pub replaced : List Candidate → Option Data → List ℕ
replaced cs None = []
replaced cs (Some d) = as_list (named_by cs d)

-- the text of the entry at `replace`, if it names no place
abbrev pub unreplaced : List Candidate → Option Data → List (List ℕ)
unreplaced cs None = []
unreplaced cs (Some d) = as_list (unnamed_by cs d)

-- the places that the entries of a package name, by the values of the array `package`: those at `dependencies`, then the
-- one at `replace`
abbrev pub targets_in : List Candidate → Option (List Data) → ℕ → List ℕ
targets_in cs packages place = targets_of cs (value_in (codes "dependencies") packages place) ++ replaced cs (value_in (codes "replace") packages place)

-- likewise by the document
abbrev pub targets_at : List Candidate → Members → ℕ → List ℕ
targets_at cs ms place = targets_in cs (packages_in ms) place

-- the texts of the entries of a package that name no place, by the values of the array `package`, in the same order
abbrev pub unresolved_in : List Candidate → Option (List Data) → ℕ → List (List ℕ)
unresolved_in cs packages place = unresolved_of cs (value_in (codes "dependencies") packages place) ++ unreplaced cs (value_in (codes "replace") packages place)

-- likewise by the document
abbrev pub unresolved_at : List Candidate → Members → ℕ → List (List ℕ)
unresolved_at cs ms place = unresolved_in cs (packages_in ms) place

-- for each package the places that its entries name
abbrev pub edges_of : Members → List PackageValue → List (List ℕ)
edges_of ms packages = map (targets_at (candidates ms packages) ms) (places (length packages))

-- for each package the texts of its entries that name no package
abbrev pub unresolved : Members → List PackageValue → List (List (List ℕ))
unresolved ms packages = map (unresolved_at (candidates ms packages) ms) (places (length packages))

-- whether a place is a successor of another one
abbrev pub is_successor : List (List ℕ) → ℕ → ℕ → Bool
is_successor edges place from = list_any (λ to. to == place) (successors edges from)

-- the places with an edge to a place, in order
abbrev pub dependents : List (List ℕ) → ℕ → List ℕ
dependents edges place = filter (is_successor edges place) (places (length edges))

-- whether another place has an edge to a place
abbrev pub is_needed : List (List ℕ) → ℕ → Bool
is_needed edges place = list_any (λ from. not (from == place) && is_successor edges place from) (places (length edges))
