-- What is under a database's root, by the answers that its folders allow.
use Rattle.std.specs.Prelude.{◌≡◌, ◌⊎◌, ◌++◌, ℕ, Contains, List, [], ◌∷◌, Option, None, Some, codes, flat_map, map}
use Rattle.rustsec_files.specs.Allowed.{Allowed}
use Rattle.rustsec_files.specs.Names.{AreInOrder, shown, shown_folders, under}
use Rattle.rustsec_files.specs.declared.entry.FolderEntry.{FolderEntry}
use Rattle.rustsec_files.specs.declared.source_file.SourceFile.{SourceFile}

-- two lists of one length, whose elements are related place by place
abbrev pub Pairwise : {A B : Type 0} → (A → B → Type 0) → List A → List B → Type 0
Pairwise R [] [] = Unit {0}
Pairwise R (x ∷ xs) (y ∷ ys) = R x y × Pairwise R xs ys
Pairwise R [] (y ∷ ys) = ⊥
Pairwise R (x ∷ xs) [] = ⊥

-- ---- names, in order, by an allowed listing

-- of the files of a package's folder
abbrev pub ShowsFiles : Allowed → List ℕ → List (List ℕ) → Type 0
ShowsFiles allowed folder names = (entries : List FolderEntry) × allowed.lists folder (Some entries) × AreInOrder (shown entries) names

-- of the folders of a collection
abbrev pub ShowsFolders : Allowed → List ℕ → List (List ℕ) → Type 0
ShowsFolders allowed collection names =
    (entries : List FolderEntry) × allowed.lists collection (Some entries) × AreInOrder (shown_folders entries) names

-- ---- paths of files

-- of a package's folder: one of each name that it shows
abbrev pub IsFolder : Allowed → List ℕ → List (List ℕ) → Type 0
IsFolder allowed folder paths = (names : List (List ℕ)) × ShowsFiles allowed folder names × (paths ≡ map (under folder) names)

-- of the folders of these names, one folder after another
abbrev pub AreFolders : Allowed → List ℕ → List (List ℕ) → List (List ℕ) → Type 0
AreFolders allowed collection names paths = (parts : List (List (List ℕ)))
    × Pairwise (λ (name : List ℕ) (part : List (List ℕ)). IsFolder allowed (under collection name) part) names parts
    × (paths ≡ flat_map (λ (part : List (List ℕ)). part) parts)

-- of a collection: those of each folder that it shows
abbrev pub IsCollection : Allowed → List ℕ → List (List ℕ) → Type 0
IsCollection allowed collection paths = (names : List (List ℕ)) × ShowsFolders allowed collection names × AreFolders allowed collection names paths

-- the same, or none where the collection cannot be listed
abbrev pub IsCollectionIfThere : Allowed → List ℕ → List (List ℕ) → Type 0
IsCollectionIfThere allowed collection paths = IsCollection allowed collection paths ⊎ (allowed.lists collection None × (paths ≡ []))

-- a folder of one of these names cannot be listed
abbrev pub FailsAtFolder : Allowed → List ℕ → List (List ℕ) → Type 0
FailsAtFolder allowed collection names = (name : List ℕ) × Contains names name × allowed.lists (under collection name) None

-- a folder that a collection shows cannot be listed
abbrev pub FailsBelow : Allowed → List ℕ → Type 0
FailsBelow allowed collection = (names : List (List ℕ)) × ShowsFolders allowed collection names × FailsAtFolder allowed collection names

-- the two collections of a root
abbrev pub crates_of : List ℕ → List ℕ
crates_of root = under root (codes "crates")

abbrev pub rust_of : List ℕ → List ℕ
rust_of root = under root (codes "rust")

-- of a root: those of `crates`, and after them those of `rust`. `rust` has no paths where it cannot be listed. Any
-- other folder that cannot be listed is the answer instead
abbrev pub Paths : Allowed → List ℕ → Option (List (List ℕ)) → Type 0
Paths allowed root (Some paths) =
    (crates rust : List (List ℕ)) × IsCollection allowed (crates_of root) crates × IsCollectionIfThere allowed (rust_of root) rust × (paths ≡ crates ++ rust)
Paths allowed root None =
    allowed.lists (crates_of root) None ⊎ (FailsBelow allowed (crates_of root) ⊎ FailsBelow allowed (rust_of root))

-- ---- files that are read

-- the file at a path, with an allowed text
abbrev pub IsFile : Allowed → List ℕ → SourceFile → Type 0
IsFile allowed path file = (file.path ≡ path) × allowed.reads path (Some file.text)

-- one of these paths cannot be read
abbrev pub FailsAtFile : Allowed → List (List ℕ) → Type 0
FailsAtFile allowed paths = (path : List ℕ) × Contains paths path × allowed.reads path None

-- what is under a root: the files at its paths. What is answered instead of the paths, or a file at one of them that
-- cannot be read, is the answer instead
abbrev pub Listed : Allowed → List ℕ → Option (List SourceFile) → Type 0
Listed allowed root (Some files) = (paths : List (List ℕ)) × Paths allowed root (Some paths) × Pairwise (IsFile allowed) paths files
Listed allowed root None =
    Paths allowed root None ⊎ ((paths : List (List ℕ)) × Paths allowed root (Some paths) × FailsAtFile allowed paths)
