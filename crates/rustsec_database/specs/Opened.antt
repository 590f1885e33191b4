-- The result of opening a root, for the answers that its folders allow.
use Rattle.std.specs.Prelude.{◌⊎◌, ℕ, List, None, Option, Some}
use Rattle.rustsec_files.specs.Allowed.{Allowed}
use Rattle.rustsec_files.specs.Listed.{FailsAtFile, IsFile, Listed, Pairwise}
use Rattle.rustsec_files.specs.declared.source_file.SourceFile.{SourceFile}
use Rattle.rustsec_values.specs.Failure.{Failure, IsRefusal}
use Rattle.rustsec_values.specs.declared.error.ErrorKind.TheVariants as kind
use Rattle.rustsec_advisory.specs.declared.advisory.Advisory.{Advisory}
use Rattle.rustsec_database.specs.Loaded.{AreLoaded, IsAdded, IsFault, IsFirstFault}

-- the advisories loaded from files that are listed under a root
abbrev pub AreOpened : Allowed → List ℕ → List Advisory → Type 0
AreOpened allowed root loaded = (files : List SourceFile) × (Listed allowed root (Some files) × AreLoaded files loaded)

-- an I/O error under a root, the refusal of the first file at fault among those that are listed there, or out of memory
abbrev pub IsOpenRefusal : Allowed → List ℕ → Failure → Type 0
IsOpenRefusal allowed root e =
    IsRefusal kind.Io (Listed allowed root None) e ⊎ ((files : List SourceFile) × (Listed allowed root (Some files) × IsFirstFault files e))

-- ---- the file at one path

-- the loaded advisories after the file at a path, whose text is one that may be read there
abbrev pub IsAddedAt : Allowed → List ℕ → List Advisory → Option ℕ → List Advisory → Type 0
IsAddedAt allowed path loaded place more = (text : List ℕ) × (allowed.reads path (Some text) × IsAdded loaded path text place more)

-- how a file is refused: it cannot be read at its path, a text that may be read there is at fault, or out of memory
abbrev pub IsFaultAt : Allowed → List ℕ → List Advisory → Failure → Type 0
IsFaultAt allowed path loaded e =
    IsRefusal kind.Io (allowed.reads path None) e ⊎ ((text : List ℕ) × (allowed.reads path (Some text) × IsFault loaded path text e))

-- ---- the files at some paths, for the functions that opening calls

-- the advisories loaded from the files at these paths
abbrev pub AreRead : Allowed → List (List ℕ) → List Advisory → Type 0
AreRead allowed paths loaded = (files : List SourceFile) × (Pairwise (IsFile allowed) paths files × AreLoaded files loaded)

-- a path that cannot be read, the refusal of the first file at fault, or out of memory
abbrev pub IsReadRefusal : Allowed → List (List ℕ) → Failure → Type 0
IsReadRefusal allowed paths e =
    IsRefusal kind.Io (FailsAtFile allowed paths) e ⊎ ((files : List SourceFile) × (Pairwise (IsFile allowed) paths files × IsFirstFault files e))
