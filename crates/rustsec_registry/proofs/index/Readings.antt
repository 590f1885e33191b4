-- The answers that were read, one name after another.
use Rattle.std.proofs.Common.{◌≡◌, ◌∙◌, ◌+◌, ◌<◌, ◌++◌, ℕ, Bool, true, false, cond, List, [], ◌∷◌, Option, Some, None, ap, get_or, inl, inr, length, nat_eq, refl, sym, take}
use Rattle.std.specs.Prelude.{◌⊎◌, is_some, option_copied}
use Rattle.std.specs.Borrow.{Bor}
use Rattle.std.specs.Cmp.Lexicographic.{bytes_decides, pointwise}
use Rattle.std.proofs.lemmas.List.{take_more}
use Rattle.std.proofs.lemmas.List.Folds.{list_any-append}
use Rattle.std.proofs.lemmas.Bool.{or_cases}
use Rattle.rustsec_files.specs.Allowed.{Allowed, AllowSame}
use Rattle.rustsec_lock.specs.Package.{PackageValue}
use Rattle.rustsec_registry.specs.Lookups.{Answer, at}
use Rattle.rustsec_registry.specs.Packages.{has_name}
use Rattle.rustsec_registry.specs.index.IndexFolder.{AnswersAll, AreAnswers, IsAdded, IsAnswer}
use Rattle.rustsec_registry.specs.declared.index.place.Place.{Place}
use Rattle.rustsec_registry.proofs.index.Ways.{answer-before}

-- ---- one name

-- a name that has an answer
pub added-before : (allowed : Allowed) (place : Place) (name : List ℕ) (old : List (List ℕ × Answer)) (a : Answer) → at name old ≡ Some a
    → IsAdded allowed place name old old
added-before allowed place name old a h = record { same = λ other b k. k; there = (a, h); given = λ other b k. inl k }

-- the value at a text, after one was set
kept-one : (t : Bool) (o : Option Answer) (answer a : Answer) → (t ≡ true → o ≡ None) → o ≡ Some a → cond t (Some answer) o ≡ Some a
kept-one true o answer a none h = cc (sym (none refl) ∙ h)
kept-one false o answer a none h = h

given-one : (t : Bool) (o : Option Answer) (answer a : Answer) → cond t (Some answer) o ≡ Some a → (o ≡ Some a) ⊎ ((t ≡ true) × (answer ≡ a))
given-one true o answer a h = inr (refl, cc h)
given-one false o answer a h = inl h

is-answer : (allowed : Allowed) (place : Place) (name other : List ℕ) (answer a : Answer) → IsAnswer allowed place name answer → other ≡ name → answer ≡ a
    → IsAnswer allowed place other a
is-answer allowed place name other answer a h is same = rw (is, ← same) h

pub added-now : (allowed : Allowed) (place : Place) (name : List ℕ) (old new : List (List ℕ × Answer)) (answer : Answer)
    → ((q : List ℕ) → at q new ≡ cond (pointwise nat_eq q name) (Some answer) (at q old)) → at name old ≡ None → IsAnswer allowed place name answer
    → IsAdded allowed place name old new
added-now allowed place name old new answer set none h = record {
  same = λ other a k. set other ∙ kept-one (pointwise nat_eq other name) (at other old) answer a
      (λ t. ap (λ q. at q old) ((bytes_decides other name).0 t) ∙ none) k;
  there = (answer, set name ∙ ap (λ t. cond t (Some answer) (at name old)) ((bytes_decides name name).1 refl));
  given = λ other a k. elim (given-one (pointwise nat_eq other name) (at other old) answer a (sym (set other) ∙ k)) [
    | inl before ↦ inl before
    | inr now ↦ inr (is-answer allowed place name other answer a h ((bytes_decides other name).0 now.0) now.1)
  ];
}

-- ---- the names of packages

named : (name : List ℕ) (ps : List PackageValue) (p : PackageValue) → has_name name (ps ++ p ∷ []) ≡ true
    → (has_name name ps ≡ true) ⊎ (name ≡ p.name)
named name ps p h =
    elim (or_cases _ _ (sym (list_any-append (λ (q : PackageValue). pointwise nat_eq name q.name) ps (p ∷ [])) ∙ h)) [
      | inl before ↦ inl before
      | inr now ↦ elim (or_cases (pointwise nat_eq name p.name) false now) [
        | inl same ↦ inr ((bytes_decides name p.name).0 same)
        | inr none ↦ cc none
      ]
    ]

pub each-more : (a b : Allowed) (place : Place) (name : List ℕ) (old new : List (List ℕ × Answer)) → AllowSame a b → AreAnswers a place old
    → IsAdded b place name old new → AreAnswers a place new
each-more a b place name old new same before added other answer h = elim (added.given other answer h) [
  | inl there ↦ before other answer there
  | inr now ↦ answer-before a b place other answer same now
]

pub all-more : (b : Allowed) (place : Place) (packages : List PackageValue) (i : ℕ) (p : PackageValue) (old new : List (List ℕ × Answer))
    → i < length packages → p ≡ get_or packages i p → AnswersAll (take i packages) old → IsAdded b place (p.name) old new
    → AnswersAll (take (i + 1) packages) new
all-more b place packages i p old new l at before added name h =
    elim (named name (take i packages) p (ap (has_name name) (ap (λ q. take i packages ++ q ∷ []) at ∙ sym (take_more packages i p l)) ∙ h)) [
      | inl there ↦ let k = before name there in (k.0, added.same name (k.0) k.1)
      | inr is ↦ rw is (added.there)
    ]

pub answers-before : (a b : Allowed) (place : Place) (answers : List (List ℕ × Answer)) → AllowSame a b → AreAnswers b place answers
    → AreAnswers a place answers
answers-before a b place answers same h name answer k = answer-before a b place name answer same (h name answer k)

-- ---- whether there is a value

some-of : {A : Type 0} (o : Option A) → is_some o ≡ true → (a : A) × (o ≡ Some a)
some-of None h = cc h
some-of (Some a) h = (a, refl)

none-of : {A : Type 0} (o : Option A) → is_some o ≡ false → o ≡ None
none-of None h = refl
none-of (Some a) h = cc h

copied-some : {A : Type 0} (o : Option (Bor A)) → is_some (option_copied o) ≡ is_some o
copied-some None = refl
copied-some (Some x) = refl

pub some-there : {A : Type 0} (wanted found : Option A) (o : Option (Bor A)) (b : Bool) → wanted ≡ found → option_copied o ≡ found → b ≡ is_some o
    → b ≡ true → (a : A) × (wanted ≡ Some a)
some-there wanted found o b same copied is yes_there =
    some-of wanted (ap is_some (same ∙ sym copied) ∙ (copied-some o ∙ (sym is ∙ yes_there)))

pub none-there : {A : Type 0} (wanted found : Option A) (o : Option (Bor A)) (b : Bool) → wanted ≡ found → option_copied o ≡ found → b ≡ is_some o
    → b ≡ false → wanted ≡ None
none-there wanted found o b same copied is not_there =
    none-of wanted (ap is_some (same ∙ sym copied) ∙ (copied-some o ∙ (sym is ∙ not_there)))
