-- What is found for packages, by the answers that a look-up keeps.
use Rattle.std.proofs.Common.{◌≡◌, ◌≢◌, ◌∙◌, ◌⊎◌, ◌++◌, ℕ, Bool, true, false, cond, List, [], ◌∷◌, Option, Some, None, Ok, Err, ap, inl, inr, map, nat_eq, refl, subst, sym}
use Rattle.std.specs.Prelude.{Contains, IsSome, Result, filter, filter_map, is_some, not}
use Rattle.std.specs.Borrow.{Bor}
use Rattle.std.specs.Cmp.Lexicographic.{bytes_decides, pointwise}
use Rattle.std.specs.List.{AllByRecursion, cons_option}
use Rattle.std.proofs.lemmas.List.Elements.{All-contains_itself, All-weaker, recursion_from_All}
use Rattle.std.proofs.lemmas.List.Folds.{list_any-from_Any}
use Rattle.semver.specs.Identifiers.{parts_text}
use Rattle.rustsec_files.specs.Allowed.{Allowed}
use Rattle.rustsec_values.specs.Failure.{Failure, IsMemory}
use Rattle.rustsec_values.specs.declared.error.ErrorKind.TheVariants as kind
use Rattle.rustsec_lock.specs.Package.{PackageValue}
use Rattle.rustsec_registry.specs.Lookups.{Answer, AreAnswers as AreKeptAnswers, IsKeptOf, Kept, at, listed}
use Rattle.rustsec_registry.specs.Packages.{AreDistinctPackages, has_name}
use Rattle.rustsec_registry.specs.Yanked.{AreKept, by_name, by_version, missing_name, missing_version, not_found, seen, yanked_answers}
use Rattle.rustsec_registry.specs.declared.lookup.IndexVersion.{IndexVersion}
use Rattle.rustsec_registry.specs.index.IndexFolder.{AnswersAll, AreAnswers, IsAnswer, IsAnswerAt, IsGiven, IsIndex}
use Rattle.rustsec_registry.specs.index.IndexPath.{index_path}
use Rattle.rustsec_registry.specs.index.YankedPackages.{AreTaken, Found, IsFirstError, IsFirstOther, IsFound, IsGivenFor, IsRefusedFor, IsTaken, is_unlisted, is_yanked, messages_in, missing_text, or_false, packages_in, packages_of, unlisted, yanked}
use Rattle.rustsec_registry.specs.declared.index.place.Place.{Place}
use Rattle.rustsec_registry.specs.declared.index.yanked.YankedPackages.{YankedPackages}

-- ---- the answer for one package

-- by what the index lists for its name
abbrev pub by_found : PackageValue → Option (List IndexVersion) → Option (Result PackageValue Failure)
by_found p None = Some (Err (not_found (missing_name p)))
by_found p (Some versions) = by_version p (listed (parts_text p.version) versions)

abbrev pub verdict : Found → Option (Result PackageValue Failure)
verdict f = by_found f.wanted f.versions

-- a package is found, or the answer for its name is another error
abbrev pub IsKnown : Allowed → Place → List (List ℕ × Kept) → PackageValue → Type 0
IsKnown allowed place kept p =
    ((o : Option (List IndexVersion)) × IsAnswer allowed place (p.name) (Ok o) × (by_name p (at p.name kept) ≡ by_found p o))
    ⊎ ((e : Failure) × IsAnswer allowed place (p.name) (Err e) × ((e.kind ≢ kind.NotFound) × (by_name p (at p.name kept) ≡ Some (Err e))))

-- no answer of an index is the error NotFound
other-at : (allowed : Allowed) (place : Place) (path : Option (List (List ℕ))) (name : List ℕ) (e : Failure) → IsAnswerAt allowed place path name (Err e)
    → e.kind ≢ kind.NotFound
other-at allowed place None name e h k = cc h
other-at allowed place (Some path) name e (inl h) k = cc (sym (ap (λ (f : Failure). f.kind) h.2.2) ∙ k)
other-at allowed place (Some path) name e (inr h) k = cc (sym h.0 ∙ k)

same-answer : (p : PackageValue) (a : Answer) (k : Kept) (allowed : Allowed) (place : Place) (kept : List (List ℕ × Kept)) → at p.name kept ≡ Some k
    → IsAnswer allowed place (p.name) a → IsKeptOf a k → IsKnown allowed place kept p
same-answer p (Ok None) (Ok None) allowed place kept there h is = inl (None, h, ap (by_name p) there)
same-answer p (Ok None) (Ok (Some entries)) allowed place kept there h is = absurd is
same-answer p (Ok (Some versions)) (Ok None) allowed place kept there h is = absurd is
same-answer p (Ok (Some versions)) (Ok (Some entries)) allowed place kept there h is =
    inl (Some versions, h, ap (by_name p) there ∙ ap (by_version p) (is (parts_text p.version)))
same-answer p (Ok o) (Err f) allowed place kept there h is = absurd is
same-answer p (Err e) (Ok o) allowed place kept there h is = absurd is
same-answer p (Err e) (Err f) allowed place kept there h is =
    inr (e, h, (other-at allowed place (index_path (p.name)) (p.name) e h, ap (by_name p) there ∙ ap (λ g. Some (Err g)) is.0))

some-of : {A : Type 0} (o : Option A) → IsSome o → (a : A) × (o ≡ Some a)
some-of None h = cc h
some-of (Some a) h = (a, refl)

given-at : (o : Option Answer) (a b : Answer) → o ≡ Some a → IsGiven o b → b ≡ a
given-at None a b h k = cc h
given-at (Some c) a b h k = k ∙ cc h

module _ (allowed : Allowed) (place : Place) (packages : List PackageValue) (index : List (List ℕ × Answer)) (kept : List (List ℕ × Kept))
    (answers : AreAnswers allowed place index) (all : AnswersAll packages index) (given : AreKeptAnswers (λ name a. IsGiven (at name index) a) kept)
    (asks : AreKept packages kept) where
  known-named : (p : PackageValue) → has_name (p.name) packages ≡ true → IsKnown allowed place kept p
  known-named p named =
      let k = some-of (at p.name kept) (asks (p.name) named) in
      let (a, gives, is) = given (p.name) (k.0) k.1 in
      let b = all (p.name) named in
      let same : a ≡ b.0 = given-at (at p.name index) (b.0) a b.1 gives in
      same-answer p a (k.0) allowed place kept k.1 (rw same (answers (p.name) (b.0) b.1)) is

  named-in : (p : PackageValue) → Contains packages p → has_name (p.name) packages ≡ true
  named-in p h =
      list_any-from_Any (λ (q : PackageValue). pointwise nat_eq p.name q.name) packages (h.0, p, h.1, h.2, (bytes_decides p.name p.name).1 refl)

  known-all : (distinct : List PackageValue) → AreDistinctPackages packages distinct → AllByRecursion (IsKnown allowed place kept) distinct
  known-all distinct d =
      recursion_from_All (IsKnown allowed place kept) distinct
      (All-weaker (Contains distinct) (IsKnown allowed place kept) (λ p h. known-named p (named-in p ((d.same p).0 h))) distinct (All-contains_itself distinct))

-- ---- the answers for packages, one after another

-- each package is found
record Whole (allowed : Allowed) (place : Place) (kept : List (List ℕ × Kept)) (ps : List PackageValue) : Type 0 where
  found : List Found
  are : packages_of found ≡ ps
  all : AllByRecursion (IsFound allowed place) found
  answers : yanked_answers kept ps ≡ filter_map verdict found

-- the answer for one is an error, after those that are found
record Stops (allowed : Allowed) (place : Place) (kept : List (List ℕ × Kept)) (ps : List PackageValue) : Type 0 where
  found : List Found
  bad : PackageValue
  rest : List PackageValue
  e : Failure
  are : packages_of found ++ bad ∷ rest ≡ ps
  all : AllByRecursion (IsFound allowed place) found
  is_error : IsAnswer allowed place (bad.name) (Err e)
  other : e.kind ≢ kind.NotFound
  answers : yanked_answers kept ps ≡ filter_map verdict found ++ Err e ∷ yanked_answers kept rest

cons-append : {A : Type 0} (o : Option A) (xs ys : List A) → cons_option o (xs ++ ys) ≡ cons_option o xs ++ ys
cons-append None xs ys = refl
cons-append (Some x) xs ys = refl

walk : (allowed : Allowed) (place : Place) (kept : List (List ℕ × Kept)) (ps : List PackageValue) → AllByRecursion (IsKnown allowed place kept) ps
    → Whole allowed place kept ps ⊎ Stops allowed place kept ps
walk allowed place kept [] h = inl (record { found = []; are = refl; all = tt; answers = refl })
walk allowed place kept (p ∷ ps) (inr (e, is, (other, says)), more) = inr (record {
  found = [];
  bad = p;
  rest = ps;
  e = e;
  are = refl;
  all = tt;
  is_error = is;
  other = other;
  answers = ap (λ o. cons_option o (yanked_answers kept ps)) says;
})
walk allowed place kept (p ∷ ps) (inl (o, is, says), more) = elim (walk allowed place kept ps more) [
  | inl w ↦ inl (record {
    found = record { wanted = p; versions = o } ∷ w.found;
    are = ap (λ qs. p ∷ qs) w.are;
    all = (is, w.all);
    answers = λ i. cons_option (says i) (w.answers i);
  })
  | inr s ↦ inr (record {
    found = record { wanted = p; versions = o } ∷ s.found;
    bad = s.bad;
    rest = s.rest;
    e = s.e;
    are = ap (λ qs. p ∷ qs) s.are;
    all = (is, s.all);
    is_error = s.is_error;
    other = s.other;
    answers = (λ i. cons_option (says i) (s.answers i)) ∙ cons-append (by_found p o) (filter_map verdict s.found) (Err s.e ∷ yanked_answers kept s.rest);
  })
]

-- ---- what the answers for found packages say

keeps : (p : PackageValue) (l : Option Bool) (rs : List (Result PackageValue Failure)) → AllByRecursion IsTaken rs
    → AllByRecursion IsTaken (cons_option (by_version p l) rs)
keeps p None rs h = (refl, h)
keeps p (Some true) rs h = (tt, h)
keeps p (Some false) rs h = h

found-keeps : (p : PackageValue) (o : Option (List IndexVersion)) (rs : List (Result PackageValue Failure)) → AllByRecursion IsTaken rs
    → AllByRecursion IsTaken (cons_option (by_found p o) rs)
found-keeps p None rs h = (refl, h)
found-keeps p (Some versions) rs h = keeps p (listed (parts_text p.version) versions) rs h

all-taken : (found : List Found) → AllByRecursion IsTaken (filter_map verdict found)
all-taken [] = tt
all-taken (f ∷ found) = found-keeps f.wanted f.versions (filter_map verdict found) (all-taken found)

picks : (f : Found) (l : Option Bool) (rs : List (Result PackageValue Failure)) (rest : List Found) → packages_in rs ≡ packages_of rest
    → packages_in (cons_option (by_version f.wanted l) rs) ≡ packages_of (cond (or_false l) (f ∷ rest) rest)
picks f None rs rest h = h
picks f (Some true) rs rest h = ap (λ ps. f.wanted ∷ ps) h
picks f (Some false) rs rest h = h

found-picks : (p : PackageValue) (o : Option (List IndexVersion)) (rs : List (Result PackageValue Failure)) (found : List Found)
    → packages_in rs ≡ yanked found → packages_in (cons_option (by_found p o) rs) ≡ yanked (record { wanted = p; versions = o } ∷ found)
found-picks p None rs found h = h
found-picks p (Some versions) rs found h =
    picks (record { wanted = p; versions = Some versions }) (listed (parts_text p.version) versions) rs (filter is_yanked found) h

all-picked : (found : List Found) → packages_in (filter_map verdict found) ≡ yanked found
all-picked [] = refl
all-picked (f ∷ found) = found-picks f.wanted f.versions (filter_map verdict found) found (all-picked found)

tells : (p : PackageValue) (versions : List IndexVersion) (l : Option Bool) (rs : List (Result PackageValue Failure)) (rest : List Found)
    → messages_in rs ≡ map missing_text rest
    → messages_in (cons_option (by_version p l) rs)
    ≡ map missing_text (cond (not (is_some l)) (record { wanted = p; versions = Some versions } ∷ rest) rest)
tells p versions None rs rest h = ap (λ ts. missing_version p ∷ ts) h
tells p versions (Some true) rs rest h = h
tells p versions (Some false) rs rest h = h

found-tells : (p : PackageValue) (o : Option (List IndexVersion)) (rs : List (Result PackageValue Failure)) (found : List Found)
    → messages_in rs ≡ unlisted found → messages_in (cons_option (by_found p o) rs) ≡ unlisted (record { wanted = p; versions = o } ∷ found)
found-tells p None rs found h = ap (λ ts. missing_name p ∷ ts) h
found-tells p (Some versions) rs found h = tells p versions (listed (parts_text p.version) versions) rs (filter is_unlisted found) h

all-told : (found : List Found) → messages_in (filter_map verdict found) ≡ unlisted found
all-told [] = refl
all-told (f ∷ found) = found-tells f.wanted f.versions (filter_map verdict found) found (all-told found)

-- ---- the first other error

taken-or-other : {P : Type 0} (before : List (Result PackageValue Failure)) (e : Failure) (after : List (Result PackageValue Failure))
    → AllByRecursion IsTaken (before ++ Err e ∷ after) → e.kind ≢ kind.NotFound → P
taken-or-other [] e after h other = absurd (other h.0)
taken-or-other (r ∷ before) e after h other = taken-or-other before e after h.1 other

heads : {A : Type 0} (x y : A) (xs ys : List A) → x ∷ xs ≡ y ∷ ys → (x ≡ y) × (xs ≡ ys)
heads x y xs ys h = (cc h, cc h)

taken-apart : {P : Type 0} (e : Failure) (r : Result PackageValue Failure) → Err e ≡ r → IsTaken r → e.kind ≢ kind.NotFound → P
taken-apart e r is h other = absurd (other (subst IsTaken (sym is) h))

abbrev fails : Failure → Result PackageValue Failure
fails e = Err e

error-of : (e f : Failure) → fails e ≡ fails f → e ≡ f
error-of e f h = cc h

same-other : (xs ys more rest : List (Result PackageValue Failure)) (e f : Failure) → xs ++ Err e ∷ more ≡ ys ++ Err f ∷ rest → AllByRecursion IsTaken xs
    → AllByRecursion IsTaken ys → e.kind ≢ kind.NotFound → f.kind ≢ kind.NotFound → e ≡ f
same-other [] [] more rest e f is h k other another = error-of e f (heads (Err e) (Err f) more rest is).0
same-other [] (y ∷ ys) more rest e f is h k other another =
    taken-apart e y (heads (Err e) y more (ys ++ Err f ∷ rest) is).0 k.0 other
same-other (x ∷ xs) [] more rest e f is h k other another =
    taken-apart f x (sym (heads x (Err f) (xs ++ Err e ∷ more) rest is).0) h.0 another
same-other (x ∷ xs) (y ∷ ys) more rest e f is h k other another =
    same-other xs ys more rest e f (heads x y (xs ++ Err e ∷ more) (ys ++ Err f ∷ rest) is).1 h.1 k.1 other another

-- ---- all packages

-- what is found, or the error at which the answers stop, by the answers that were taken
module _ (allowed : Allowed) (place : Place) (packages : List PackageValue) (index : List (List ℕ × Answer)) (kept : List (List ℕ × Kept))
    (answers : AreAnswers allowed place index) (all : AnswersAll packages index) (given : AreKeptAnswers (λ name a. IsGiven (at name index) a) kept)
    (asks : AreKept packages kept) (distinct : List PackageValue) (d : AreDistinctPackages packages distinct) (results : List (Result PackageValue Failure))
    (is : results ≡ yanked_answers kept distinct) where
  walked : Whole allowed place kept distinct ⊎ Stops allowed place kept distinct
  walked = walk allowed place kept distinct (known-all allowed place packages index kept answers all given asks distinct d)

  pub found-all : (y : YankedPackages) → AreTaken results y
      → (found : List Found) × AreDistinctPackages packages (packages_of found) × (AllByRecursion (IsFound allowed place) found
      × ((y.packages ≡ yanked found) × (y.unlisted ≡ unlisted found)))
  found-all y t = elim walked [
    | inl w ↦
        let same = is ∙ w.answers in
        (w.found, rw w.are d, (w.all, (t.packages ∙ (ap packages_in same ∙ all-picked w.found), t.unlisted ∙ (ap messages_in same ∙ all-told w.found))))
    | inr s ↦
        let same = is ∙ s.answers in
        taken-or-other (filter_map verdict s.found) s.e (yanked_answers kept s.rest) (subst (AllByRecursion IsTaken) same t.all) s.other
  ]

  pub first-error : (e : Failure) → IsFirstOther results e → IsFirstError allowed place packages e
  first-error e o = elim walked [
    | inl w ↦
        let same = sym (sym o.answers_are ∙ (is ∙ w.answers)) in
        taken-or-other o.before e o.after (subst (AllByRecursion IsTaken) same (all-taken w.found)) o.other
    | inr s ↦
        let same = sym (is ∙ s.answers) ∙ o.answers_are in
        let one : s.e ≡ e = same-other (filter_map verdict s.found) o.before (yanked_answers kept s.rest) o.after s.e e same (all-taken s.found) o.all s.other o.other in
        record {
          found = s.found;
          bad = s.bad;
          rest = s.rest;
          are_distinct = rw s.are d;
          are_found = s.all;
          is_error = subst (λ (f : Failure). IsAnswer allowed place (s.bad.name) (Err f)) one s.is_error;
        }
  ]

-- the call's own answers
module _ (allowed : Allowed) (root : List ℕ) (packages : List PackageValue) (index old new : List (List ℕ × Answer)) (kept : List (List ℕ × Kept))
    (answers slice : List (Result (Bor PackageValue) Failure)) (read : IsIndex allowed root index) (all : AnswersAll packages index) (made : old ≡ index)
    (same : new ≡ old) (given : AreKeptAnswers (λ name a. IsGiven (at name new) a) kept) (asks : AreKept packages kept)
    (told : (distinct : List PackageValue) × AreDistinctPackages packages distinct × (map seen answers ≡ yanked_answers kept distinct)) (is : slice ≡ answers) where
  gives : AreKeptAnswers (λ name a. IsGiven (at name index) a) kept
  gives = subst (λ (i : List (List ℕ × Answer)). AreKeptAnswers (λ name a. IsGiven (at name i) a) kept) (same ∙ made) given

  results : map seen slice ≡ yanked_answers kept (told.0)
  results = ap (map seen) is ∙ told.2

  pub is-given : (y : YankedPackages) → AreTaken (map seen slice) y → IsGivenFor allowed root packages y
  is-given y t =
      let f = found-all allowed (read.0) packages index kept read.2 all gives asks (told.0) told.1 (map seen slice) results y t in
      record {
        place = read.0;
        is_place = read.1;
        found = f.0;
        are_distinct = f.1;
        are_found = f.2.0;
        packages_are = f.2.1.0;
        unlisted_are = f.2.1.1;
      }

  pub is-refused : (e : Failure) → IsFirstOther (map seen slice) e ⊎ IsMemory e → IsRefusedFor allowed root packages e
  is-refused e (inl other) =
      inr (read.0, read.1, first-error allowed (read.0) packages index kept read.2 all gives asks (told.0) told.1 (map seen slice) results e other)
  is-refused e (inr memory) = inl (inr memory)
