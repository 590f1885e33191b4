-- The answers that some folders allow, where they are also what an opened listing or file had.
use Rattle.std.specs.Prelude.{ℕ, IfSome, List, Option}
use Rattle.rustsec_files.specs.Allowed.{Allowed, IsTextOfFile, read_from, real_folders}
use Rattle.rustsec_files.specs.Entries.{ListsNames}
use Rattle.rustsec_files.specs.Names.{names_of}

-- these answers, where the names of each listing are some that an opened listing had
abbrev pub listed_from : (List (List ℕ) → Type 0) → Allowed → Allowed
listed_from listed allowed = record {
  lists = λ path answer. allowed.lists path answer × IfSome answer (λ entries. listed (names_of entries));
  reads = allowed.reads;
}

-- the same, where each text is also one that an opened file had
abbrev pub seen_by : (List (List ℕ) → Type 0) → (List ℕ → Type 0) → Allowed → Allowed
seen_by listed opened allowed = listed_from listed (read_from opened allowed)

-- the names of some listing: those in the bytes that it has left, if these are known
abbrev pub AreNamesOfListing : {D : Type 0} → (D → Option (List ℕ)) → List (List ℕ) → Type 0
AreNamesOfListing {D} remaining names = (listing : D) × ListsNames (remaining listing) names

-- what the folders of a disk allow, where the names are those of some listing, and each text is that of some file
abbrev pub seen_on_disk : {D F : Type 0} → (D → Option (List ℕ)) → (F → Option (List ℕ)) → Allowed
seen_on_disk listings files = seen_by (AreNamesOfListing listings) (IsTextOfFile files) real_folders
