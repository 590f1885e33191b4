-- Ways to files, and answers, by the answers that some folders allow; and by those that others allow, where these are
-- the same.
use Rattle.std.proofs.Common.{◌≡◌, ◌≢◌, ◌∙◌, ◌+◌, ◌<◌, ℕ, Bool, true, false, List, [], ◌∷◌, Option, Some, None, Ok, Err, add-one, ap, drop, drop-cons, get_or, inl, inr, length, suc, sym}
use Rattle.rustsec_files.specs.Allowed.{Allowed, AllowSame}
use Rattle.rustsec_files.specs.Names.{under}
use Rattle.rustsec_files.specs.declared.source_file.SourceFile.{SourceFile}
use Rattle.rustsec_values.specs.Failure.{Failure, IsRefusal}
use Rattle.rustsec_values.specs.declared.error.ErrorKind.TheVariants as kind
use Rattle.rustsec_registry.specs.Lookups.{Answer}
use Rattle.rustsec_registry.specs.index.IndexFolder.{IsAnswer, IsAnswerAt, IsFileAnswer, IsListed, IsMissing, IsTextAnswer, IsUnreadAnswer, Shows}
use Rattle.rustsec_registry.specs.index.IndexPath.{below, index_path}
use Rattle.rustsec_registry.specs.declared.index.place.Place.{Place}

-- ---- what was found later, by what was allowed before

pub shows-before : (a b : Allowed) (folder name : List ℕ) (shown : Option Bool) → AllowSame a b → Shows b folder name shown → Shows a folder name shown
shows-before a b folder name None same h = (same.lists folder None).1 h
shows-before a b folder name (Some shown) same h = (h.0, (h.1.0, (same.lists folder (Some (h.1.0))).1 h.1.1, h.1.2), h.2)

pub missing-before : (a b : Allowed) (folder : List ℕ) (path : List (List ℕ)) → AllowSame a b → IsMissing b folder path → IsMissing a folder path
missing-before a b folder [] same h = h
missing-before a b folder (name ∷ more) same (inl h) = inl (shows-before a b folder name (Some false) same h)
missing-before a b folder (name ∷ more) same (inr h) =
    inr (shows-before a b folder name (Some true) same h.0, missing-before a b (under folder name) more same h.1)

pub listed-before : (a b : Allowed) (folder : List ℕ) (path : List (List ℕ)) → AllowSame a b → IsListed b folder path → IsListed a folder path
listed-before a b folder [] same h = tt
listed-before a b folder (name ∷ more) same (inl h) = inl (shows-before a b folder name None same h)
listed-before a b folder (name ∷ more) same (inr h) =
    inr (shows-before a b folder name (Some true) same h.0, listed-before a b (under folder name) more same h.1)

pub file-before : (a b : Allowed) (place : Place) (path : List (List ℕ)) (name : List ℕ) (answer : Answer) → AllowSame a b
    → IsFileAnswer b place path name answer → IsFileAnswer a place path name answer
file-before a b place path name (Ok None) same h =
    ((same.reads (below (place.root) path) None).1 h.0, missing-before a b (place.root) path same h.1)
file-before a b place path name (Ok (Some versions)) same h = (h.0, (same.reads (below (place.root) path) (Some (h.0))).1 h.1, h.2)
file-before a b place path name (Err e) same (inl h) = inl (h.0, (same.reads (below (place.root) path) (Some (h.0))).1 h.1, h.2)
file-before a b place path name (Err e) same (inr h) =
    inr (h.0, ((same.reads (below (place.root) path) None).1 h.1.0, listed-before a b (place.root) path same h.1.1))

at-before : (a b : Allowed) (place : Place) (path : Option (List (List ℕ))) (name : List ℕ) (answer : Answer) → AllowSame a b
    → IsAnswerAt b place path name answer → IsAnswerAt a place path name answer
at-before a b place None name answer same h = h
at-before a b place (Some path) name answer same h = file-before a b place path name answer same h

pub answer-before : (a b : Allowed) (place : Place) (name : List ℕ) (answer : Answer) → AllowSame a b → IsAnswer b place name answer
    → IsAnswer a place name answer
answer-before a b place name answer same h = at-before a b place (index_path name) name answer same h

-- ---- one folder on the way to a file

drop-at : (path : List (List ℕ)) (i : ℕ) (name : List ℕ) → i < length path → name ≡ get_or path i name → drop i path ≡ name ∷ drop (i + 1) path
drop-at path i name l at = rw (add-one, drop-cons path i name) (ap (λ n. n ∷ drop (suc i) path) (sym at))

module _ (a : Allowed) (folder : List ℕ) (path : List (List ℕ)) (i : ℕ) (name : List ℕ) (l : i < length path) (at : name ≡ get_or path i name) where
  pub missing-here : Shows a folder name (Some false) → IsMissing a folder (drop i path)
  missing-here h = rw (drop-at path i name l at) (inl h)

  pub missing-later : (next : List ℕ) → next ≡ under folder name → Shows a folder name (Some true) → IsMissing a next (drop (i + 1) path)
      → IsMissing a folder (drop i path)
  missing-later next is h more = rw (drop-at path i name l at) (inr (h, rw (← is) more))

  pub listed-here : Shows a folder name None → IsListed a folder (drop i path)
  listed-here h = rw (drop-at path i name l at) (inl h)

  pub listed-later : (next : List ℕ) → next ≡ under folder name → Shows a folder name (Some true) → IsListed a next (drop (i + 1) path)
      → IsListed a folder (drop i path)
  listed-later next is h more = rw (drop-at path i name l at) (inr (h, rw (← is) more))

-- ---- answers

pub text-answer : (a : Allowed) (place : Place) (path : List (List ℕ)) (file : SourceFile) (name : List ℕ) (answer : Answer)
    → file.path ≡ below (place.root) path → a.reads (file.path) (Some (file.text)) → IsTextAnswer place file name answer
    → IsFileAnswer a place path name answer
text-answer a place path file name (Ok None) is reads h = absurd h
text-answer a place path file name (Ok (Some versions)) is reads h = (file.text, rw (← is) reads, h)
text-answer a place path file name (Err e) is reads h = inl (file.text, rw (← is) reads, rw (← is) h)

refused : (P : Type 0) (e : Failure) → e.kind ≢ kind.OutOfMemory → IsRefusal kind.Io P e → (e.kind ≡ kind.Io) × P
refused P e other (inl h) = h
refused P e other (inr h) = absurd (other (ap (λ (f : Failure). f.kind) h))

pub unread-answer : (a b : Allowed) (place : Place) (path : List (List ℕ)) (name : List ℕ) (reason : Failure) (answer : Answer)
    → AllowSame a b → IsRefusal kind.Io (a.reads (below (place.root) path) None) reason → IsUnreadAnswer b place path reason answer
    → IsFileAnswer a place path name answer
unread-answer a b place path name reason (Ok None) same why h =
    ((refused _ reason h.0 why).1, missing-before a b (place.root) path same h.1)
unread-answer a b place path name reason (Ok (Some versions)) same why h = absurd h
unread-answer a b place path name reason (Err e) same why h =
    let known = refused _ reason h.1.0 why in
    inr (ap (λ (f : Failure). f.kind) h.0 ∙ known.0, (known.1, listed-before a b (place.root) path same h.1.1))

-- a folder that is equal, with equal listings
pub shows-at : (a : Allowed) (folder other name : List ℕ) (shown seen : Option Bool) → folder ≡ other → shown ≡ seen → Shows a folder name shown
    → Shows a other name seen
shows-at a folder other name shown seen is same h = rw (← is, ← same) h

-- the same path
pub refused-at : (a : Allowed) (path other : List ℕ) (e : Failure) → path ≡ other → IsRefusal kind.Io (a.reads path None) e
    → IsRefusal kind.Io (a.reads other None) e
refused-at a path other e is h = rw (← is) h
