-- What holds by the answers that some folders allow holds by those that others allow, where these allow them all.
use Rattle.std.proofs.Common.{◌≡◌, ◌+◌, ◌<◌, ◌++◌, ℕ, List, [], ◌∷◌, get_or, inl, inr, length, take}
use Rattle.std.specs.Prelude.{◌⊎◌, IfErr, IfOk, None, Option, Some, Result, Ok, Err, map, ⊤}
use Rattle.rustsec_files.specs.Allowed.{Allowed, AllowSame}
use Rattle.rustsec_files.specs.Listed.{AreFolders, FailsAtFile, FailsAtFolder, FailsBelow, IsCollection, IsCollectionIfThere, IsFile, IsFolder, Listed, Pairwise, Paths, ShowsFiles, ShowsFolders, crates_of, rust_of}
use Rattle.rustsec_files.specs.Names.{under}
use Rattle.rustsec_files.specs.Seen.{listed_from}
use Rattle.rustsec_files.specs.declared.entry.FolderEntry.{FolderEntry}
use Rattle.rustsec_files.specs.declared.source_file.SourceFile.{SourceFile}
use Rattle.rustsec_files.proofs.Lists.{contains-item, joined-push, pairwise-push, pairwise-step, pairwise-weaker}
use Rattle.rustsec_values.specs.Failure.{Failure, IsRefusal}
use Rattle.rustsec_values.specs.declared.error.ErrorKind.{ErrorKind}

pub same-refl : (a : Allowed) → AllowSame a a
same-refl a = record { lists = λ path answer. (λ h. h, λ h. h); reads = λ path answer. (λ h. h, λ h. h) }

pub same-trans : (a b c : Allowed) → AllowSame a b → AllowSame b c → AllowSame a c
same-trans a b c f g = record {
  lists = λ path answer. (λ h. (g.lists path answer).0 ((f.lists path answer).0 h), λ h. (f.lists path answer).1 ((g.lists path answer).1 h));
  reads = λ path answer. (λ h. (g.reads path answer).0 ((f.reads path answer).0 h), λ h. (f.reads path answer).1 ((g.reads path answer).1 h));
}

-- the first allow each answer that the second do
pub record AllowsAll (a b : Allowed) : Type 0 where
  pub lists : (path : List ℕ) (answer : Option (List FolderEntry)) → b.lists path answer → a.lists path answer
  pub reads : (path : List ℕ) (answer : Option (List ℕ)) → b.reads path answer → a.reads path answer

pub all-of-same : (a b : Allowed) → AllowSame a b → AllowsAll a b
all-of-same a b same = record { lists = λ path answer. (same.lists path answer).1; reads = λ path answer. (same.reads path answer).1 }

-- also where the names of a listing are some that an opened listing had
pub listed-same : (l : List (List ℕ) → Type 0) (a b : Allowed) → AllowSame a b → AllowSame (listed_from l a) (listed_from l b)
listed-same l a b same = record {
  lists = λ path answer. (λ h. ((same.lists path answer).0 h.0, h.1), λ h. ((same.lists path answer).1 h.0, h.1));
  reads = same.reads;
}

pub all-listed : (l : List (List ℕ) → Type 0) (a b : Allowed) → AllowSame a b → AllowsAll (listed_from l a) (listed_from l b)
all-listed l a b same = all-of-same (listed_from l a) (listed_from l b) (listed-same l a b same)

pub all-without : (l : List (List ℕ) → Type 0) (a : Allowed) → AllowsAll a (listed_from l a)
all-without l a = record { lists = λ path answer h. h.0; reads = λ path answer h. h }

-- ---- what was found later, by what was allowed before

pub file-before : (a b : Allowed) (path : List ℕ) (file : SourceFile) → AllowsAll a b → IsFile b path file → IsFile a path file
file-before a b path file all h = (h.0, all.reads path (Some file.text) h.1)

pub files-before : (a b : Allowed) (paths : List (List ℕ)) (files : List SourceFile) → AllowsAll a b → Pairwise (IsFile b) paths files
    → Pairwise (IsFile a) paths files
files-before a b paths files all h = pairwise-weaker (IsFile b) (IsFile a) (λ path file. file-before a b path file all) paths files h

pub shows-files-before : (a b : Allowed) (folder : List ℕ) (names : List (List ℕ)) → AllowsAll a b → ShowsFiles b folder names → ShowsFiles a folder names
shows-files-before a b folder names all h = (h.0, all.lists folder (Some h.0) h.1, h.2)

pub shows-folders-before : (a b : Allowed) (collection : List ℕ) (names : List (List ℕ)) → AllowsAll a b → ShowsFolders b collection names
    → ShowsFolders a collection names
shows-folders-before a b collection names all h = (h.0, all.lists collection (Some h.0) h.1, h.2)

pub folder-before : (a b : Allowed) (folder : List ℕ) (paths : List (List ℕ)) → AllowsAll a b → IsFolder b folder paths → IsFolder a folder paths
folder-before a b folder paths all h = (h.0, shows-files-before a b folder h.0 all h.1, h.2)

pub folders-before : (a b : Allowed) (collection : List ℕ) (names paths : List (List ℕ)) → AllowsAll a b
    → AreFolders b collection names paths → AreFolders a collection names paths
folders-before a b collection names paths all h = (
  h.0,
  pairwise-weaker (λ (name : List ℕ) (part : List (List ℕ)). IsFolder b (under collection name) part)
      (λ (name : List ℕ) (part : List (List ℕ)). IsFolder a (under collection name) part)
      (λ name part. folder-before a b (under collection name) part all) names h.0 h.1,
  h.2,
)

pub collection-before : (a b : Allowed) (collection : List ℕ) (paths : List (List ℕ)) → AllowsAll a b → IsCollection b collection paths
    → IsCollection a collection paths
collection-before a b collection paths all h =
    (h.0, shows-folders-before a b collection h.0 all h.1, folders-before a b collection h.0 paths all h.2)

pub there-before : (a b : Allowed) (collection : List ℕ) (paths : List (List ℕ)) → AllowsAll a b → IsCollectionIfThere b collection paths
    → IsCollectionIfThere a collection paths
there-before a b collection paths all (inl h) = inl (collection-before a b collection paths all h)
there-before a b collection paths all (inr h) = inr (all.lists collection None h.0, h.1)

pub fails-at-file-before : (a b : Allowed) (paths : List (List ℕ)) → AllowsAll a b → FailsAtFile b paths → FailsAtFile a paths
fails-at-file-before a b paths all h = (h.0, h.1, all.reads h.0 None h.2)

pub fails-at-folder-before : (a b : Allowed) (collection : List ℕ) (names : List (List ℕ)) → AllowsAll a b → FailsAtFolder b collection names
    → FailsAtFolder a collection names
fails-at-folder-before a b collection names all h = (h.0, h.1, all.lists (under collection h.0) None h.2)

pub fails-below-before : (a b : Allowed) (collection : List ℕ) → AllowsAll a b → FailsBelow b collection → FailsBelow a collection
fails-below-before a b collection all h =
    (h.0, shows-folders-before a b collection h.0 all h.1, fails-at-folder-before a b collection h.0 all h.2)

pub paths-before : (a b : Allowed) (root : List ℕ) (answer : Option (List (List ℕ))) → AllowsAll a b → Paths b root answer → Paths a root answer
paths-before a b root (Some paths) all (crates, rust, in_crates, in_rust, is) =
    (crates, rust, collection-before a b (crates_of root) crates all in_crates, there-before a b (rust_of root) rust all in_rust, is)
paths-before a b root None all (inl h) = inl (all.lists (crates_of root) None h)
paths-before a b root None all (inr (inl h)) = inr (inl (fails-below-before a b (crates_of root) all h))
paths-before a b root None all (inr (inr h)) = inr (inr (fails-below-before a b (rust_of root) all h))

-- the paths of `crates`, and those of `rust` that were listed later; `crates` that is not listed
pub paths-found : (a b : Allowed) (root : List ℕ) (crates rust paths : List (List ℕ)) → AllowsAll a b → IsCollection a (crates_of root) crates
    → IsCollectionIfThere b (rust_of root) rust → paths ≡ crates ++ rust → Paths a root (Some paths)
paths-found a b root crates rust paths all in_crates in_rust is = (crates, rust, in_crates, there-before a b (rust_of root) rust all in_rust, is)

pub crates-fail : (a : Allowed) (root : List ℕ) → a.lists (crates_of root) None ⊎ FailsBelow a (crates_of root) → Paths a root None
crates-fail a root (inl h) = inl h
crates-fail a root (inr h) = inr (inl h)

pub rust-fails : (a b : Allowed) (root : List ℕ) → AllowsAll a b → FailsBelow b (rust_of root) → Paths a root None
rust-fails a b root all h = inr (inr (fails-below-before a b (rust_of root) all h))

pub listed-before : (a b : Allowed) (root : List ℕ) (answer : Option (List SourceFile)) → AllowsAll a b → Listed b root answer → Listed a root answer
listed-before a b root (Some files) all (paths, found, read) =
    (paths, paths-before a b root (Some paths) all found, files-before a b paths files all read)
listed-before a b root None all (inl h) = inl (paths-before a b root None all h)
listed-before a b root None all (inr (paths, found, h)) = inr (paths, paths-before a b root (Some paths) all found, fails-at-file-before a b paths all h)

-- ---- at equal paths

pub lists-at : (a : Allowed) (p q : List ℕ) (answer : Option (List FolderEntry)) → p ≡ q → a.lists p answer → a.lists q answer
lists-at a p q answer is h = rw (← is) h

pub reads-at : (a : Allowed) (p q : List ℕ) (answer : Option (List ℕ)) → p ≡ q → a.reads p answer → a.reads q answer
reads-at a p q answer is h = rw (← is) h

-- ---- what is gone through

-- one file more
pub files-step : (a b : Allowed) (paths : List (List ℕ)) (files : List SourceFile) (path : List ℕ) (file : SourceFile) → AllowSame a b
    → Pairwise (IsFile a) paths files → IsFile b path file → Pairwise (IsFile a) (paths ++ path ∷ []) (files ++ file ∷ [])
files-step a b paths files path file same before h = pairwise-push (IsFile a) paths files path file before (file-before a b path file (all-of-same a b same) h)

-- the paths of one folder more
pub folders-step : (a b : Allowed) (collection : List ℕ) (names paths part : List (List ℕ)) (i : ℕ) (item name : List ℕ)
    → AllowsAll a b → i < length names → item ≡ get_or names i item → name ≡ item → AreFolders a collection (take i names) paths
    → IsFolder b (under collection name) part → AreFolders a collection (take (i + 1) names) (paths ++ part)
folders-step a b collection names paths part i item name all l at is before h = (
  before.0 ++ part ∷ [],
  pairwise-step (λ (n : List ℕ) (p : List (List ℕ)). IsFolder a (under collection n) p) names before.0 i item part l at before.1
      (rw (← is) (folder-before a b (under collection name) part all h)),
  joined-push paths before.0 part before.2,
)

-- a folder that cannot be listed
pub folder-fails : (a b : Allowed) (collection : List ℕ) (names : List (List ℕ)) (i : ℕ) (item name : List ℕ) → AllowsAll a b
    → i < length names → item ≡ get_or names i item → name ≡ item → b.lists (under collection name) None → FailsAtFolder a collection names
folder-fails a b collection names i item name all l at is h =
    (item, contains-item names i item l at, rw (← is) (all.lists (under collection name) None h))

-- ---- names that were shown, and the paths that were made of them then

pub folder-found : (a : Allowed) (folder : List ℕ) (names items paths : List (List ℕ)) → ShowsFiles a folder names → items ≡ names
    → paths ≡ map (under folder) items → IsFolder a folder paths
folder-found a folder names items paths shown is h = (items, rw is shown, h)

pub collection-found : (a b : Allowed) (collection : List ℕ) (names items paths : List (List ℕ)) → AllowsAll a b
    → ShowsFolders a collection names → items ≡ names → AreFolders b collection items paths → IsCollection a collection paths
collection-found a b collection names items paths all shown is h =
    (items, rw is shown, folders-before a b collection items paths all h)

pub below-found : (a b : Allowed) (collection : List ℕ) (names items : List (List ℕ)) → AllowsAll a b → ShowsFolders a collection names
    → items ≡ names → FailsAtFolder b collection items → FailsBelow a collection
below-found a b collection names items all shown is h =
    (items, rw is shown, fails-at-folder-before a b collection items all h)

pub listed-found : (a b : Allowed) (root : List ℕ) (paths : List (List ℕ)) (files : List SourceFile) → AllowSame a b
    → Paths a root (Some paths) → Pairwise (IsFile b) paths files → Listed a root (Some files)
listed-found a b root paths files same found h = (paths, found, files-before a b paths files (all-of-same a b same) h)

pub listed-fails : (a b : Allowed) (root : List ℕ) (paths : List (List ℕ)) → AllowSame a b → Paths a root (Some paths) → FailsAtFile b paths
    → Listed a root None
listed-fails a b root paths same found h = inr (paths, found, fails-at-file-before a b paths (all-of-same a b same) h)

-- ---- answers

pub ok-any : {T E : Type 0} (r : Result T E) → IfOk r (λ _. ⊤)
ok-any (Ok x) = tt
ok-any (Err e) = tt

pub crates-refused : {T : Type 0} (k : ErrorKind) (a : Allowed) (p q : List ℕ) (r : Result T Failure) → p ≡ q
    → IfErr r (IsRefusal k (a.lists p None ⊎ FailsBelow a p)) → IfErr r (IsRefusal k (a.lists q None ⊎ FailsBelow a q))
crates-refused k a p q r is h = rw (← is) h
