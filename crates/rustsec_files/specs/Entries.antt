-- The names in a folder's listing, and the failure of a folder that cannot be listed.
use Rattle.std.specs.Prelude.{◌≡◌, ◌++◌, ◌==◌, ◌||◌, ◌⊎◌, ℕ, Bool, IfSome, List, Option, codes, filter, length, not}
use Rattle.std.specs.Fmt.{decimal}
use Rattle.std.specs.List.{find, slice_split}
use Rattle.std.specs.Str.{bytes_eq, is_utf8}
use Rattle.std.specs.Str.Lossy.{utf8_lossy}
use Rattle.rustsec_files.specs.ReadFailures.{IsReadFailure}
use Rattle.rustsec_files.specs.Names.{under}
use Rattle.rustsec_values.specs.Failure.{Failure, or_empty}

-- whether a part of a listing is the name of an entry: it is not empty, and neither the folder itself nor its parent
abbrev pub is_entry_name : List ℕ → Bool
is_entry_name name = not (length name == 0 || (bytes_eq name (codes ".") || bytes_eq name (codes "..")))

-- the names of the entries in a listing, which has a NUL after each name
abbrev pub entry_names : List ℕ → List (List ℕ)
entry_names listing = filter is_entry_name (slice_split (λ b. b == 0) listing)

-- the names of a listing that has these bytes left, if they are known
abbrev pub ListsNames : Option (List ℕ) → List (List ℕ) → Type 0
ListsNames left names = IfSome left (λ bytes. names ≡ entry_names bytes)

-- the first name in the bytes of a listing that is not UTF-8, if any
abbrev pub first_not_utf8 : List ℕ → Option (List ℕ)
first_not_utf8 listing = find (λ name. not (is_utf8 name)) (slice_split (λ b. b == 0) listing)

-- the reason that a listing is not UTF-8 from this offset on: the name, with U+FFFD for what is not UTF-8
abbrev pub name_not_utf8_in : List ℕ → ℕ → List ℕ
name_not_utf8_in listing offset = codes "the name of the entry `" ++ (utf8_lossy (or_empty (first_not_utf8 listing)) ++ (codes "` is not UTF-8, at byte offset " ++ (decimal offset ++ codes " of the listing")))

-- the failure of a folder that cannot be listed, or of an entry of it that cannot be looked at
abbrev pub IsListFailure : List ℕ → Failure → Type 0
IsListFailure folder e = IsReadFailure folder e ⊎ ((name : List ℕ) × IsReadFailure (under folder name) e)
