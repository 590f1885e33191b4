-- Which package a dependency entry names.
use Rattle.std.specs.Prelude.{ℕ, Bool, false, List, [], ◌∷◌, Option, Some, None, codes, length, nat_eq, option_and_then, option_map, slice_get}
use Rattle.std.specs.Cmp.Lexicographic.{pointwise}
use Rattle.std.specs.List.{filter, fold, list_all, list_any, range_with_len}
use Rattle.std.specs.Option.{option_map_or, option_or}
use Rattle.toml.specs.Data.{Data, Members, as_array, as_str, as_table, get_member}
use Rattle.rustsec_values.specs.Reading.{◌>>=◌, only_if}
use Rattle.rustsec_toml.specs.Fields.{list_of}
use Rattle.rustsec_graph.specs.Candidates.{Candidate}

-- whether an entry fits a package
abbrev pub fits : List ℕ → Candidate → Bool
fits entry c = list_any (λ text. pointwise nat_eq text entry) c.texts

-- the places of a list
abbrev pub places : ℕ → List ℕ
places n = range_with_len 0 n

-- whether an entry fits the package at a place
abbrev pub fits_at : List Candidate → List ℕ → ℕ → Bool
fits_at cs entry place = option_map_or (fits entry) (slice_get cs place) false

-- whether the package at a place is local
abbrev pub is_local_at : List Candidate → ℕ → Bool
is_local_at cs place = option_map_or (λ (c : Candidate). c.is_local) (slice_get cs place) false

-- the name and the version of the package at a place
abbrev pub release_at : List Candidate → ℕ → List ℕ
release_at cs place = option_map_or (λ (c : Candidate). c.release) (slice_get cs place) []

-- whether the packages at two places have the same name and version
abbrev pub is_same_release : List Candidate → ℕ → ℕ → Bool
is_same_release cs a b = pointwise nat_eq (release_at cs a) (release_at cs b)

-- the places of the packages that an entry fits
abbrev pub fitting : List Candidate → List ℕ → List ℕ
fitting cs entry = filter (fits_at cs entry) (places (length cs))

-- the only element of a list
abbrev pub only : List ℕ → Option ℕ
only [] = None
only (x ∷ []) = Some x
only (x ∷ (y ∷ ys)) = None

-- a place, if all packages of a list have the name and version of the one there
abbrev pub if_same_release : List Candidate → List ℕ → ℕ → Option ℕ
if_same_release cs xs place = only_if (list_all (λ x. is_same_release cs x place) xs) (Some place)

-- the place of the only local package of a list, if all packages of the list have its name and version
abbrev pub only_local : List Candidate → List ℕ → Option ℕ
only_local cs xs = only (filter (is_local_at cs) xs) >>= if_same_release cs xs

-- the place that an entry names: that of the only package that it fits; of several with one name and version that of
-- the only local one, since entries have no source for local packages; else none
abbrev pub named : List Candidate → List ℕ → Option ℕ
named cs entry = option_or (only (fitting cs entry)) (only_local cs (fitting cs entry))

-- the place that a value of the list of entries names; a value that is not a text names none
abbrev pub named_by : List Candidate → Data → Option ℕ
named_by cs d = option_and_then (named cs) (as_str d)

-- the values of the array `package`
abbrev pub packages_in : Members → Option (List Data)
packages_in ms = option_map list_of (get_member (codes "package") ms >>= as_array)

-- the table at a place of a list
abbrev pub table_at : ℕ → List Data → Option Members
table_at place ds = slice_get ds place >>= as_table

-- the value at a key of the table of a package, by its place in the array `package` and the values of that array
abbrev pub value_in : List ℕ → Option (List Data) → ℕ → Option Data
value_in key packages place = packages >>= table_at place >>= get_member key

-- likewise by the document
abbrev pub value_at : List ℕ → Members → ℕ → Option Data
value_at key ms place = value_in key (packages_in ms) place

-- what is found after one more place: the place if it is the only one so far, else none
abbrev pub next_found : Option (Option ℕ) → ℕ → Option (Option ℕ)
next_found None place = Some (Some place)
next_found (Some found) place = Some None

-- what is found after all places
abbrev pub found : List ℕ → Option (Option ℕ)
found xs = fold next_found None xs
