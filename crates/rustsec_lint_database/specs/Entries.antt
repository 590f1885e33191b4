-- The entries of a whole database: the remarks on each file under its root, and which files have an ID that an earlier one has.
use Rattle.std.specs.Prelude.{◌≡◌, ℕ, ◌++◌, ◌∷◌, [], Bool, List, Option, None, Some, option_map}
use Rattle.std.specs.List.{find}
use Rattle.std.specs.Option.{option_eq}
use Rattle.rustsec_files.specs.Allowed.{Allowed}
use Rattle.rustsec_files.specs.Listed.{Pairwise, Paths}
use Rattle.rustsec_texts.specs.IdOrder.{id_eq}
use Rattle.rustsec_texts.specs.Ids.{IdValue}
use Rattle.rustsec_lint_database.specs.Files.{IsLintAt}
use Rattle.rustsec_lint_database.specs.declared.database.Entry.{Entry}
use Rattle.rustsec_lint_database.specs.declared.file.FileLint.{FileLint}

-- whether a file has this ID
abbrev pub has_id : IdValue → FileLint → Bool
has_id id f = option_eq id_eq (Some id) f.id

-- the path of the first of some files that has an ID
abbrev pub first_with : Option IdValue → List FileLint → Option (List ℕ)
first_with None files = None
first_with (Some id) files = option_map (λ (f : FileLint). f.path) (find (has_id id) files)

-- some files after others, each with the path of the first file before it that has its ID
abbrev pub entries_after : List FileLint → List FileLint → List Entry
entries_after before [] = []
entries_after before (f ∷ files) = record { file = f; first = first_with f.id before } ∷ entries_after (before ++ f ∷ []) files

-- the files of a database, each with the path of the first file before it that has its ID
abbrev pub entries_of : List FileLint → List Entry
entries_of files = entries_after [] files

-- the files at some paths, in their order
pub record AreLintedAt (allowed : Allowed) (paths : List (List ℕ)) (entries : List Entry) : Type 0 where
  pub files : List FileLint
  pub each : Pairwise (IsLintAt allowed) paths files
  pub entries_are : entries ≡ entries_of files

-- the files under a root
abbrev pub AreEntries : Allowed → List ℕ → List Entry → Type 0
AreEntries allowed root entries = (paths : List (List ℕ)) × (Paths allowed root (Some paths) × AreLintedAt allowed paths entries)
