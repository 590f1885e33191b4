-- What folders in memory answer.
use Rattle.std.specs.Borrow.{Bor}
use Rattle.std.specs.List.{find}
use Rattle.std.specs.Prelude.{◌≡◌, ◌≢◌, ◌⊎◌, ℕ, Bool, List, Option, Some, None, map, option_map}
use Rattle.std.specs.Str.{bytes_eq}
use Rattle.rustsec_files.specs.Allowed.{Allowed}
use Rattle.rustsec_files.specs.declared.entry.FolderEntry.{FolderEntry}
use Rattle.rustsec_fixtures.specs.declared.folders_in_memory.Holds.{Holds}
use Rattle.rustsec_fixtures.specs.declared.folders_in_memory.Holds.TheVariants as holds
use Rattle.rustsec_fixtures.specs.declared.folders_in_memory.MemoryFolders.{MemoryFolders}

-- an entry of a name, a folder or not
abbrev pub entry_of : Bor (List ℕ) × Bool → FolderEntry
entry_of row = record { name = row.0.now; folder = row.1 }

-- the contents of a path: those of the first row with it, if any
abbrev pub held_at : List (Bor (List ℕ) × Holds) → List ℕ → Option Holds
held_at rows path = option_map (λ row. row.1) (find (λ row. bytes_eq row.0.now path) rows)

-- the listing of a path with these contents: the entries of a folder, and an error of all else
abbrev pub listed : Option Holds → Option (List FolderEntry)
listed (Some (holds.Entries rows)) = Some (map entry_of rows.now)
listed (Some (holds.Text text)) = None
listed None = None

-- the reading of a path with these contents: the text of a file, and an error of all else
abbrev pub read : Option Holds → Option (List ℕ)
read (Some (holds.Entries rows)) = None
read (Some (holds.Text text)) = Some text.now
read None = None

-- the contents of a path at a call: by the first table, or by the later one where folders turn to that
abbrev pub IsHeld : MemoryFolders → List ℕ → Option Holds → Type 0
IsHeld f path held = (held ≡ held_at f.paths.now path) ⊎ ((f.turns_at ≢ 0) × (held ≡ held_at f.later.now path))

-- an answer about a path: by its contents at a call, or an error where a call may fail
abbrev pub IsAnswer : {A : Type 0} → MemoryFolders → (Option Holds → Option A) → List ℕ → Option A → Type 0
IsAnswer f by path answer = ((held : Option Holds) × (IsHeld f path held × (by held ≡ answer))) ⊎ ((f.failing.at ≢ 0) × (answer ≡ None))

-- the answers of folders in memory
abbrev pub answers_of : MemoryFolders → Allowed
answers_of f = record { lists = IsAnswer f listed; reads = IsAnswer f read }
