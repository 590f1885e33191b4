-- The result of loading one file after another: it keeps the error of the first file at fault.
use Rattle.std.proofs.Common.{◌≡◌, ◌∙◌, ◌⊎◌, ◌++◌, ℕ, List, [], ◌∷◌, Some, None, inl, inr, refl, subst, sym, ap}
use Rattle.std.proofs.lemmas.List.{append_assoc}
use Rattle.std.specs.Prelude.{Contains, Result}
use Rattle.rustsec_values.specs.Failure.{Failure, IsMemory}
use Rattle.rustsec_advisory.specs.declared.advisory.Advisory.{Advisory}
use Rattle.rustsec_files.specs.Allowed.{Allowed, AllowSame, read_from}
use Rattle.rustsec_files.specs.Listed.{FailsAtFile, IsFile, Pairwise, Paths}
use Rattle.rustsec_files.specs.Seen.{seen_by}
use Rattle.rustsec_files.specs.declared.source_file.SourceFile.{SourceFile}
use Rattle.rustsec_files.proofs.Lists.{pairwise-push}
use Rattle.rustsec_files.proofs.Same.{AllowsAll, listed-before, listed-fails, listed-found, listed-same}
use Rattle.rustsec_values.proofs.Refusals.{refused_by}
use Rattle.rustsec_values.specs.declared.error.ErrorKind.TheVariants as kind
use Rattle.rustsec_database.specs.Loaded.{AreLoaded, IsFault, IsFirstFault}
use Rattle.rustsec_database.specs.Opened.{AreOpened, AreRead, IsOpenRefusal, IsReadRefusal}

-- ---- the result of loading one more file, from the result for the files before it

refused-still : (files : List SourceFile) (f : SourceFile) (e : Failure) → IsFirstFault files e → IsFirstFault (files ++ f ∷ []) e
refused-still files f e h = record {
  good = h.good;
  bad = h.bad;
  rest = h.rest ++ f ∷ [];
  files_are = ap (λ (xs : List SourceFile). xs ++ f ∷ []) h.files_are ∙ append_assoc h.good (h.bad ∷ h.rest) (f ∷ []);
  loaded = h.loaded;
  are_loaded = h.are_loaded;
  fault = h.fault;
  names = h.names;
}

-- a refusal stays the result with one more file
pub still-refused : (files : List SourceFile) (f : SourceFile) (e : Failure) → IsFirstFault files e ⊎ IsMemory e
    → IsFirstFault (files ++ f ∷ []) e ⊎ IsMemory e
still-refused files f e (inl h) = inl (refused-still files f e h)
still-refused files f e (inr memory) = inr memory

-- the last file is at fault
pub last-fault : (files : List SourceFile) (f : SourceFile) (loaded : List Advisory) (e : Failure) → AreLoaded files loaded
    → IsFault loaded f.path f.text e → IsFirstFault (files ++ f ∷ []) e ⊎ IsMemory e
last-fault files f loaded e h (inr memory) = inr memory
last-fault files f loaded e h (inl fault) =
    inl (record {
      good = files;
      bad = f;
      rest = [];
      files_are = refl;
      loaded = loaded;
      are_loaded = h;
      fault = fault.0;
      names = fault.1;
    })

-- ---- folders, and what opened listings and files had

pub read-same : (o : List ℕ → Type 0) (a b : Allowed) → AllowSame a b → AllowSame (read_from o a) (read_from o b)
read-same o a b same = record {
  lists = same.lists;
  reads = λ path answer. (λ h. ((same.reads path answer).0 h.0, h.1), λ h. ((same.reads path answer).1 h.0, h.1));
}

pub seen-same : (l : List (List ℕ) → Type 0) (o : List ℕ → Type 0) (a b : Allowed) → AllowSame a b → AllowSame (seen_by l o a) (seen_by l o b)
seen-same l o a b same = listed-same l (read_from o a) (read_from o b) (read-same o a b same)

all-unseen : (l : List (List ℕ) → Type 0) (o : List ℕ → Type 0) (a : Allowed) → AllowsAll a (seen_by l o a)
all-unseen l o a = record { lists = λ path answer h. h.0; reads = λ path answer h. h.0 }

pub opened-weaker : (l : List (List ℕ) → Type 0) (o : List ℕ → Type 0) (a : Allowed) (root : List ℕ) (loaded : List Advisory)
    → AreOpened (seen_by l o a) root loaded → AreOpened a root loaded
opened-weaker l o a root loaded (files, (listed, load)) =
    (files, (listed-before a (seen_by l o a) root (Some files) (all-unseen l o a) listed, load))

pub refused-weaker : (l : List (List ℕ) → Type 0) (o : List ℕ → Type 0) (a : Allowed) (root : List ℕ) (e : Failure)
    → IsOpenRefusal (seen_by l o a) root e → IsOpenRefusal a root e
refused-weaker l o a root e (inl refusal) =
    inl (refused_by kind.Io e (λ h. listed-before a (seen_by l o a) root None (all-unseen l o a) h) refusal)
refused-weaker l o a root e (inr (files, (listed, fault))) =
    inr (files, (listed-before a (seen_by l o a) root (Some files) (all-unseen l o a) listed, fault))

-- ---- a loop over paths

-- a path that cannot be read
pub file-fails : (a b : Allowed) (paths : List (List ℕ)) (item path : List ℕ) → AllowSame a b → Contains paths item
    → path ≡ item → b.reads path None → FailsAtFile a paths
file-fails a b paths item path same among is h = (item, among, rw (← is) ((same.reads path None).1 h))

file-read : (a b : Allowed) (item path copy text whole : List ℕ) → AllowSame a b → path ≡ item → copy ≡ item → text ≡ whole
    → b.reads path (Some whole) → IsFile a item (record { path = copy; text = text })
file-read a b item path copy text whole same is also all h =
    (also, subst (λ (p : List ℕ). a.reads p (Some text)) is (subst (λ (t : List ℕ). a.reads path (Some t)) (sym all) ((same.reads path (Some whole)).1 h)))

-- one more file was read and loaded, with a property of the files and of the result of loading them
pub load-step : {A : Type 0} (P : List SourceFile → Result A Failure → Type 0) (a b : Allowed) (paths : List (List ℕ))
    (item path copy text whole : List ℕ) (before answer : Result A Failure) → AllowSame a b
    → path ≡ item → copy ≡ item → text ≡ whole → (files : List SourceFile) × (Pairwise (IsFile a) paths files × P files before)
    → b.reads path (Some whole)
    → ((files : List SourceFile) → P files before → P (files ++ record { path = copy; text = text } ∷ []) answer)
    → (files : List SourceFile) × (Pairwise (IsFile a) (paths ++ item ∷ []) files × P files answer)
load-step P a b paths item path copy text whole before answer same is also all (files, (read, load)) h next = (
  files ++ record { path = copy; text = text } ∷ [],
  (
    pairwise-push (IsFile a) paths files item (record { path = copy; text = text }) read (file-read a b item path copy text whole same is also all h),
    next files load,
  ),
)

-- ---- paths that are listed under a root, and the files that are read at them afterwards

pub opened : (a b : Allowed) (root : List ℕ) (paths items : List (List ℕ)) (loaded : List Advisory) → AllowSame a b → Paths a root (Some paths)
    → items ≡ paths → AreRead b items loaded → AreOpened a root loaded
opened a b root paths items loaded same found is (files, (read, load)) =
    (files, (listed-found a b root paths files same found (subst (λ (ps : List (List ℕ)). Pairwise (IsFile b) ps files) is read), load))

pub open-refused : (a b : Allowed) (root : List ℕ) (paths items : List (List ℕ)) (e : Failure) → AllowSame a b → Paths a root (Some paths)
    → items ≡ paths → IsReadRefusal b items e → IsOpenRefusal a root e
open-refused a b root paths items e same found is (inl refusal) =
    inl (refused_by kind.Io e (λ f. listed-fails a b root paths same found (subst (FailsAtFile b) is f)) refusal)
open-refused a b root paths items e same found is (inr (files, (read, fault))) =
    inr (files, (listed-found a b root paths files same found (subst (λ (ps : List (List ℕ)). Pairwise (IsFile b) ps files) is read), fault))
