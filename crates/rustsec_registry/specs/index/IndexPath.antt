-- Where an index has the file of a package (The Cargo Book, "Registry Index", "Index Files").
use Rattle.std.specs.Prelude.{◌==◌, ◌||◌, ◌&&◌, ◌++◌, ℕ, Bool, List, [], ◌∷◌, Option, Some, codes, drop, flat_map, if◌then◌else◌, length, map, not, take}
use Rattle.std.specs.Char.{is_ascii_alphanumeric, to_ascii_lowercase}
use Rattle.std.specs.List.{list_all}
use Rattle.rustsec_values.specs.Reading.{only_if}

-- a letter, a digit, `-` or `_`, in ASCII
abbrev pub is_name_byte : ℕ → Bool
is_name_byte b = is_ascii_alphanumeric b || (b == 45 || b == 95)

-- whether a text is a package's name (The Cargo Book, "The Manifest Format", "The name field"). In an index a name is
-- ASCII
abbrev pub is_package_name : List ℕ → Bool
is_package_name name = not (length name == 0) && list_all is_name_byte name

-- a name in lower case, in which the names of an index's files are
abbrev pub lower_case : List ℕ → List ℕ
lower_case name = map to_ascii_lowercase name

-- the folders of a name's file: `1`, `2`, `3` and the first character, or the first two characters and the next two
abbrev pub folders_of : List ℕ → List (List ℕ)
folders_of name =
    if length name == 1 then codes "1" ∷ []
    else if length name == 2 then codes "2" ∷ []
    else if length name == 3 then codes "3" ∷ take 1 name ∷ []
    else take 2 name ∷ take 2 (drop 2 name) ∷ []

-- the names of the folders and of the file itself; none if the text is not a package's name
abbrev pub index_path : List ℕ → Option (List (List ℕ))
index_path name = only_if (is_package_name name) (Some (folders_of (lower_case name) ++ lower_case name ∷ []))

-- the path of such names below a folder
abbrev pub below : List ℕ → List (List ℕ) → List ℕ
below folder names = folder ++ flat_map (λ name. codes "/" ++ name) names
