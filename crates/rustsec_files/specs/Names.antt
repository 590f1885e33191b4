-- Names of entries, and paths below a folder.
use Rattle.std.specs.Prelude.{◌≡◌, ℕ, ◌++◌, Bool, IsPermutation, IsSorted, List, Some, codes, filter, map, nat_eq, not}
use Rattle.std.specs.Cmp.Lexicographic.{slice_cmp}
use Rattle.std.specs.List.{starts_with}
use Rattle.std.specs.Ordering.{nat_cmp}
use Rattle.rustsec_files.specs.Allowed.{Allowed}
use Rattle.rustsec_files.specs.declared.entry.FolderEntry.{FolderEntry}

-- the path of a name in a folder
abbrev pub under : List ℕ → List ℕ → List ℕ
under folder name = folder ++ (codes "/" ++ name)

-- whether a name begins with a dot
abbrev pub begins_with_dot : List ℕ → Bool
begins_with_dot name = starts_with nat_eq name (codes ".")

-- whether an entry's name begins with no dot
abbrev pub is_shown : FolderEntry → Bool
is_shown entry = not (begins_with_dot entry.name)

-- whether an entry is a folder
abbrev pub is_folder : FolderEntry → Bool
is_folder entry = entry.folder

-- the names of some entries
abbrev pub names_of : List FolderEntry → List (List ℕ)
names_of entries = map (λ (entry : FolderEntry). entry.name) entries

-- the names of an allowed listing
abbrev pub AreNames : Allowed → List ℕ → List (List ℕ) → Type 0
AreNames allowed folder names = (entries : List FolderEntry) × allowed.lists folder (Some entries) × (names ≡ names_of entries)

-- a name that begins with no dot
abbrev pub is_shown_name : List ℕ → Bool
is_shown_name name = not (begins_with_dot name)

-- the names that a package's folder shows: all but those that begin with a dot
abbrev pub shown : List FolderEntry → List (List ℕ)
shown entries = names_of (filter is_shown entries)

-- the names that a collection shows: those of its folders alone, except those that begin with a dot
abbrev pub shown_folders : List FolderEntry → List (List ℕ)
shown_folders entries = shown (filter is_folder entries)

-- the same names, each as often, in the order of their bytes
pub record AreInOrder (names ordered : List (List ℕ)) : Type 0 where
  pub same : IsPermutation names ordered
  pub rise : IsSorted (slice_cmp nat_cmp) ordered
