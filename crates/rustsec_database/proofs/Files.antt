-- Loading files, one after another.
use Rattle.std.proofs.Common.{◌≡◌, ◌∙◌, ◌⊎◌, ◌+◌, ◌<◌, ◌++◌, ℕ, suc, Bool, true, false, cond, List, [], ◌∷◌, Option, Some, inl, inr, get_or, length, take, drop, not, refl, subst, sym, ap, arith}
use Rattle.std.proofs.lemmas.List.{append-nil, take-append-drop, take_more}
use Rattle.std.proofs.lemmas.List.Elements.{filter-append}
use Rattle.std.proofs.lemmas.List.Folds.{list_any_at}
use Rattle.std.proofs.lemmas.List.Quantifiers.{all_pairs_push}
use Rattle.std.proofs.Math.Seq.{drop-cons}
use Rattle.rustsec_values.specs.Failure.{Failure, IsMemory, IsOfKind}
use Rattle.rustsec_values.specs.Refusals.{of_file}
use Rattle.rustsec_values.specs.declared.error.ErrorKind.TheVariants as kind
use Rattle.rustsec_advisory.specs.declared.advisory.Advisory.{Advisory}
use Rattle.rustsec_database.specs.Placement.{IsFiled}
use Rattle.rustsec_database.specs.Loaded.{AreFiled, AreLoaded, HaveOwnIds, IsAdded, IsAtFault, IsFault, IsFirstFault, has_id, is_known, is_stored}
use Rattle.rustsec_files.specs.declared.source_file.SourceFile.{SourceFile}
use Rattle.rustsec_database.proofs.Places.{is-false}

filed-more : (files : List SourceFile) (all : List Advisory) (f : SourceFile) (a : Advisory) → AreFiled files all → IsFiled f.path f.text a
    → AreFiled (files ++ f ∷ []) (all ++ a ∷ [])
filed-more [] [] f a h k = (k, tt)
filed-more [] (b ∷ all) f a h k = absurd h
filed-more (g ∷ files) [] f a h k = absurd h
filed-more (g ∷ files) (b ∷ all) f a h k = (h.0, filed-more files all f a h.1 k)

pub one-more : (b : Bool) (l : List Advisory) (a : Advisory) → cond b (l ++ a ∷ []) l ≡ l ++ cond b (a ∷ []) []
one-more true l a = refl
one-more false l a = sym (append-nil l)

none-has : (loaded : List Advisory) (a : Advisory) → is_known loaded a ≡ false → (k : ℕ) (d : Advisory) → k < length loaded
    → has_id a.metadata.id (get_or loaded k d) ≡ false
none-has loaded a h k d l =
    is-false (has_id a.metadata.id (get_or loaded k d)) (λ t. cc (sym h ∙ list_any_at (has_id a.metadata.id) loaded k d l t))

pub own-more : (b : Bool) (loaded : List Advisory) (a : Advisory) → (b ≡ true → is_known loaded a ≡ false) → HaveOwnIds loaded
    → HaveOwnIds (cond b (loaded ++ a ∷ []) loaded)
own-more true loaded a new own =
    all_pairs_push (λ x y. has_id y.metadata.id x ≡ false) loaded a own (λ k d l. none-has loaded a (new refl) k d l)
own-more false loaded a new own = own

pub loaded-none : AreLoaded [] []
loaded-none = record { all = []; are_filed = tt; loaded_are = refl; own_ids = λ i j d l m. absurd (omega (arith, m)) }

-- one more file, without fault
pub loaded-more : (files : List SourceFile) (f : SourceFile) (loaded more : List Advisory) (place : Option ℕ) → AreLoaded files loaded
    → IsAdded loaded f.path f.text place more → AreLoaded (files ++ f ∷ []) more
loaded-more files f loaded more place h one =
    let of_one = one-more (is_stored one.one) loaded one.one in
    record {
      all = h.all ++ one.one ∷ [];
      are_filed = filed-more files h.all f one.one h.are_filed one.is_filed;
      loaded_are = one.more_are ∙ (of_one ∙ (ap (λ l. l ++ cond (is_stored one.one) (one.one ∷ []) []) h.loaded_are
          ∙ sym (filter-append is_stored h.all (one.one ∷ []))));
      own_ids = subst HaveOwnIds (sym one.more_are) (own-more (is_stored one.one) loaded one.one one.is_new h.own_ids);
    }

-- as `loaded-more`, for the files up to a place
pub loaded-step : (files : List SourceFile) (i : ℕ) (f : SourceFile) (loaded more : List Advisory) (place : Option ℕ) → i < length files
    → f ≡ get_or files i f → AreLoaded (take i files) loaded → IsAdded loaded f.path f.text place more → AreLoaded (take (i + 1) files) more
loaded-step files i f loaded more place l is h one =
    let longer : take i files ++ f ∷ [] ≡ take (i + 1) files =
    ap (λ x. take i files ++ x ∷ []) is ∙ sym (take_more files i f l) in
    subst (λ fs. AreLoaded fs more) longer (loaded-more (take i files) f loaded more place h one)

-- a file at fault after files without fault is the first fault
pub first-fault : (files : List SourceFile) (i : ℕ) (f : SourceFile) (loaded : List Advisory) (e : Failure) → i < length files
    → f ≡ get_or files i f → AreLoaded (take i files) loaded → IsFault loaded f.path f.text e → IsFirstFault files e ⊎ IsMemory e
first-fault files i f loaded e l is h (inr memory) = inr memory
first-fault files i f loaded e l is h (inl fault) =
    inl (record {
      good = take i files;
      bad = f;
      rest = drop (suc i) files;
      files_are = sym (take-append-drop i files) ∙ (ap (λ xs. take i files ++ xs) (drop-cons files i f l)
          ∙ ap (λ x. take i files ++ x ∷ drop (suc i) files) (sym is));
      loaded = loaded;
      are_loaded = h;
      fault = fault.0;
      names = fault.1;
    })

-- a property of a path and a text holds for equal ones
pub at-file : (P : List ℕ → List ℕ → Type 0) (p q t u : List ℕ) → p ≡ q → t ≡ u → P p t → P q u
at-file P p q t u path text h = rw (← path, ← text) h

-- the refusal of a file's text becomes the refusal of the file
pub fault-of-file : (loaded : List Advisory) (path text : List ℕ) (e r : Failure) → IsAtFault loaded path text e.kind ⊎ IsMemory e
    → (IsMemory e → IsMemory r) → (r ≡ of_file path e) ⊎ IsMemory r → IsFault loaded path text r
fault-of-file loaded path text e r (inr memory) keeps says = inr (keeps memory)
fault-of-file loaded path text e r (inl fault) keeps (inr memory) = inr memory
fault-of-file loaded path text e r (inl fault) keeps (inl is) =
    inl (subst (IsAtFault loaded path text) (sym (ap (λ (f : Failure). f.kind) is)) fault, ap (λ (f : Failure). f.message) is)

pub not-false : (b : Bool) → b ≡ false → not b ≡ true
not-false b h = rw h refl

-- a file is at fault if the ID of its advisory is known
pub known-fault : (loaded : List Advisory) (path text : List ℕ) (a : Advisory) (e : Failure) → IsFiled path text a → is_stored a ≡ true
    → is_known loaded a ≡ true → IsOfKind kind.Parse e → IsAtFault loaded path text e.kind ⊎ IsMemory e
known-fault loaded path text a e filed stored known (inl is) = inl (inr (a, (filed, (stored, (known, is)))))
known-fault loaded path text a e filed stored known (inr memory) = inr memory

-- likewise if it was refused for that, or for memory
pub refused-fault : (loaded : List Advisory) (path text : List ℕ) (a : Advisory) (e : Failure) → IsFiled path text a → is_stored a ≡ true
    → ((is_known loaded a ≡ true) × IsOfKind kind.Parse e) ⊎ IsMemory e → IsAtFault loaded path text e.kind ⊎ IsMemory e
refused-fault loaded path text a e filed stored (inl is) = known-fault loaded path text a e filed stored is.0 is.1
refused-fault loaded path text a e filed stored (inr memory) = inr memory

-- an advisory that was stored is added
pub added : (loaded more : List Advisory) (path text : List ℕ) (a : Advisory) (n : ℕ) → IsFiled path text a → is_stored a ≡ true
    → is_known loaded a ≡ false → n ≡ length loaded → more ≡ loaded ++ a ∷ [] → IsAdded loaded path text (Some n) more
added loaded more path text a n filed stored new at are = record {
  one = a;
  is_filed = filed;
  is_new = λ t. new;
  place_is = rw stored (ap Some at);
  more_are = rw stored are;
}
