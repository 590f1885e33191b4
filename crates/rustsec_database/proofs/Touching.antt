-- The packages of a lockfile by their names, and whether some advisory affects one of them.
use Rattle.std.proofs.Common.{◌≡◌, ◌∙◌, ◌+◌, ◌<◌, ◌++◌, ◌&&◌, ◌||◌, ℕ, Bool, true, false, cond, List, [], ◌∷◌, Option, Some, None, get_or, length, nat_eq, take, refl, sym, ap, subst, arith}
use Rattle.std.proofs.lemmas.List.{length-take-le, take_more}
use Rattle.std.specs.Cmp.Lexicographic.{bytes_decides, pointwise}
use Rattle.std.specs.List.{cons_option, filter, filter_map, list_any, slice_get}
use Rattle.rustsec_versions.specs.acceptance.Lists.{affected}
use Rattle.rustsec_versions.specs.ranges.Ranges.{is_until}
use Rattle.rustsec_lock.specs.Package.{PackageValue}
use Rattle.rustsec_advisory.specs.declared.advisory.Advisory.{Advisory}
use Rattle.rustsec_database.specs.Kept.{bears_on_any, touches_any}
use Rattle.rustsec_database.specs.Places.{IsIndexByName, affects_at, at_places, bears_at, holds_at, is_named, places_from}
use Rattle.rustsec_database.specs.Slots.{slots_at, with_slot}
use Rattle.rustsec_database.specs.Spans.{span_of}
use Rattle.rustsec_database.proofs.Places.{places-below, places-in, places-out, taken}
use Rattle.rustsec_database.proofs.Slots.{with_slot-last}
use Rattle.rustsec_database.proofs.Tables.{name-back, plus-zero}

-- ---- the index

named-step : (before : List PackageValue) (p : PackageValue) (slot : ℕ) (old : List (List ℕ × List ℕ)) (name : List ℕ) (b : Bool)
    → pointwise nat_eq p.name name ≡ b → slot ≡ length before → IsIndexByName before old
    → cond b (with_slot slot (slots_at p.name old)) (slots_at name old) ≡ places_from (is_named name) 0 (before ++ p ∷ [])
named-step before p slot old name true is at index =
    let same : p.name ≡ name = (bytes_decides p.name name).0 is in
    let here : is_named name p ≡ true = (bytes_decides name p.name).1 (sym same) in
    let places = places_from (is_named name) 0 before in
    let slots : slots_at p.name old ≡ places = ap (λ n. slots_at n old) same ∙ index name in
    (λ i. with_slot (at i) (slots i))
    ∙ (with_slot-last places (length before) (places-below (is_named name) 0 (length before) before (sym (plus-zero (length before))))
    ∙ (ap (λ (n : ℕ). places ++ n ∷ []) (plus-zero (length before)) ∙ sym (places-in (is_named name) 0 before p here)))
named-step before p slot old name false is at index =
    index name ∙ sym (places-out (is_named name) 0 before p (name-back p.name name is))

-- the index with one package more
pub named-more : (packages : List PackageValue) (i : ℕ) (p : PackageValue) (slot : ℕ) (key : List ℕ) (old new : List (List ℕ × List ℕ))
    → i < length packages → p ≡ get_or packages i p → slot ≡ i → key ≡ p.name
    → ((name : List ℕ) → slots_at name new ≡ cond (pointwise nat_eq key name) (with_slot slot (slots_at key old)) (slots_at name old))
    → IsIndexByName (take i packages) old → IsIndexByName (take (i + 1) packages) new
named-more packages i p slot key old new l is at named put index name =
    let below : slot ≡ length (take i packages) = at ∙ sym (length-take-le i packages (omega (arith, l))) in
    subst (λ (k : List ℕ). slots_at name new ≡ cond (pointwise nat_eq k name) (with_slot slot (slots_at k old)) (slots_at name old)) named (put name)
    ∙ (named-step (take i packages) p slot old name (pointwise nat_eq p.name name) refl below index
    ∙ ap (places_from (is_named name) 0) (ap (λ x. take i packages ++ x ∷ []) is ∙ sym (take_more packages i p l)))

-- ---- the test

module _ {A : Type 0} where
  any-cons : (test : A → Bool) (o : Option A) (xs : List A) → (holds_at test o || list_any test xs) ≡ list_any test (cons_option o xs)
  any-cons test None xs = refl
  any-cons test (Some x) xs = refl

  -- whether an element at some places passes a test
  any-at : (test : A → Bool) (xs : List A) (places : List ℕ)
      → list_any (λ n. holds_at test (slice_get xs n)) places ≡ list_any test (filter_map (slice_get xs) places)
  any-at test xs [] = refl
  any-at test xs (n ∷ ns) =
      ap (λ b. holds_at test (slice_get xs n) || b) (any-at test xs ns) ∙ any-cons test (slice_get xs n) (filter_map (slice_get xs) ns)

  any-both : (p test : A → Bool) (x : A) (us xs : List A) (b : Bool) → p x ≡ b → list_any test us ≡ list_any (λ y. p y && test y) xs
      → list_any test (cond b (x ∷ us) us) ≡ (b && test x) || list_any (λ y. p y && test y) xs
  any-both p test x us xs true is h = ap (λ c. test x || c) h
  any-both p test x us xs false is h = h

  -- whether an element of those that pass one test passes another one
  any-filter : (p test : A → Bool) (xs : List A) → list_any test (filter p xs) ≡ list_any (λ x. p x && test x) xs
  any-filter p test [] = refl
  any-filter p test (x ∷ xs) = any-both p test x (filter p xs) xs (p x) refl (any-filter p test xs)

-- the packages of a name are enough for a test of the packages that have it
named-any : (packages : List PackageValue) (test : PackageValue → Bool) (name slots : List ℕ) → slots ≡ places_from (is_named name) 0 packages
    → list_any (λ n. holds_at test (slice_get packages n)) slots ≡ list_any (λ p. is_named name p && test p) packages
named-any packages test name slots are =
    any-at test packages slots
    ∙ (ap (λ ps. list_any test (at_places ps packages)) are
    ∙ (ap (list_any test) (taken (is_named name) packages) ∙ any-filter (is_named name) test packages))

-- an advisory affects one of the packages exactly if it affects one of its name
pub touched : (packages : List PackageValue) (a : Advisory) (slots : List ℕ) → slots ≡ places_from (is_named a.metadata.«package») 0 packages
    → list_any (affects_at a.versions packages) slots ≡ touches_any packages a
touched packages a slots are = named-any packages (λ p. affected a.versions p.version) a.metadata.«package» slots are

-- and it bears on one of them exactly if it bears on one of its name
pub borne : (packages : List PackageValue) (a : Advisory) (slots : List ℕ) → slots ≡ places_from (is_named a.metadata.«package») 0 packages
    → list_any (bears_at (span_of a.versions).fixed packages) slots ≡ bears_on_any packages a
borne packages a slots are = named-any packages (λ p. is_until (span_of a.versions).fixed p.version) a.metadata.«package» slots are
