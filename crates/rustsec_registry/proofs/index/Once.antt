-- Where each path has one answer, one list of packages is yanked, or an error is met, and not both.
use Rattle.std.proofs.Common.{◌≡◌, ◌∙◌, ◌⊎◌, ◌++◌, ◌<◌, ℕ, Bool, true, false, List, [], ◌∷◌, Option, Some, None, Ok, Err, Less, ap, arith, inl, inr, length, refl, subst, sym}
use Rattle.std.specs.Prelude.{Contains}
use Rattle.std.specs.Cmp.{tied_itself}
use Rattle.std.specs.List.{AllByRecursion}
use Rattle.std.specs.List.Sorted.{IsStrictlySortedBy}
use Rattle.std.proofs.lemmas.List.Elements.{All-cons, All-contains, All-from_recursion, All-nil, Contains-append_cases, Contains-append_left, Contains-append_right, Contains-push}
use Rattle.std.proofs.lemmas.Map.Keys.{sorted_head, sorted_tail}
use Rattle.rustsec_files.specs.Allowed.{Allowed, AnswersOnce}
use Rattle.rustsec_files.specs.Names.{AreNames, names_of, under}
use Rattle.rustsec_files.proofs.Once.{read-or-not, text-once}
use Rattle.rustsec_values.specs.Failure.{Failure, IsMemory}
use Rattle.rustsec_lock.specs.Package.{PackageValue, package_cmp, package_total}
use Rattle.rustsec_registry.specs.Packages.{AreDistinctPackages}
use Rattle.rustsec_registry.specs.declared.lookup.IndexVersion.{IndexVersion}
use Rattle.rustsec_registry.specs.index.IndexFile.{Entries, IsDamage, Lists, after_entry, entries_of, first_says, versions_said}
use Rattle.rustsec_registry.specs.index.IndexFolder.{IsAnswer, IsAnswerAt, IsFileAnswer, IsListed, IsMissing, IsPlace, Shows, has, place_of}
use Rattle.rustsec_registry.specs.index.IndexPath.{below, index_path}
use Rattle.rustsec_registry.specs.index.YankedPackages.{Found, IsFirstError, IsFound, IsGivenFor, IsRefusedFor, IsYankedIn, IsYankedRefusal, asked, packages_of, unlisted, yanked}
use Rattle.rustsec_registry.specs.declared.index.form.IndexForm.{IndexForm}
use Rattle.rustsec_registry.specs.declared.index.place.Place.{Place}
use Rattle.rustsec_registry.specs.declared.index.yanked.YankedPackages.{YankedPackages}

some-same : {A : Type 0} (a b : A) → Some a ≡ Some b → a ≡ b
some-same a b h = cc h

none-or-some : {A P : Type 0} (o : Option A) (a : A) → o ≡ None → o ≡ Some a → P
none-or-some o a h k = absurd (cc (sym h ∙ k))

-- ---- distinct packages

none-in : {P : Type 0} (p : PackageValue) → Contains [] p → P
none-in {P} p h = All-contains (λ (q : PackageValue). P) [] p (All-nil _) h

first-or-later : (x : PackageValue) (xs : List PackageValue) (p : PackageValue) → Contains (x ∷ xs) p → (x ≡ p) ⊎ Contains xs p
first-or-later x xs p h =
    let alone = All-cons (λ z. x ≡ z) x [] refl (All-nil (λ z. x ≡ z)) in
    elim (Contains-append_cases (x ∷ []) xs p h) [
      | inl there ↦ inl (All-contains (λ z. x ≡ z) (x ∷ []) p alone there)
      | inr later ↦ inr later
    ]

first-in : (x : PackageValue) (xs : List PackageValue) → Contains (x ∷ xs) x
first-in x xs = Contains-append_left (x ∷ []) xs x (Contains-push [] x)

later-in : (x : PackageValue) (xs : List PackageValue) (p : PackageValue) → Contains xs p → Contains (x ∷ xs) p
later-in x xs p h = Contains-append_right (x ∷ []) xs p h

abbrev Rises : List PackageValue → Type 0
Rises xs = IsStrictlySortedBy package_cmp xs

less-than : (x : PackageValue) (xs : List PackageValue) (p : PackageValue) → Rises (x ∷ xs) → Contains xs p → package_cmp x p ≡ Less
less-than x xs p r h =
    All-contains (λ q. package_cmp x q ≡ Less) xs p (All-from_recursion (λ q. package_cmp x q ≡ Less) xs (sorted_head package_cmp x xs r)) h

never-itself : {P : Type 0} (x : PackageValue) → package_cmp x x ≡ Less → P
never-itself x h = absurd (cc (sym (tied_itself package_total x) ∙ h))

-- two are not before one another
never-both : {P : Type 0} (x y : PackageValue) → package_cmp x y ≡ Less → package_cmp y x ≡ Less → P
never-both x y h k = never-itself x (package_total.trans x y x h k)

first-same : (x : PackageValue) (xs : List PackageValue) (y : PackageValue) (ys : List PackageValue) → Rises (x ∷ xs) → Rises (y ∷ ys)
    → Contains (y ∷ ys) x → Contains (x ∷ xs) y → x ≡ y
first-same x xs y ys r s h k = elim (first-or-later y ys x h) [
  | inl is ↦ sym is
  | inr later ↦ elim (first-or-later x xs y k) [
    | inl is ↦ is
    | inr after ↦ never-both x y (less-than x xs y r after) (less-than y ys x s later)
  ]
]

rest-in : (x : PackageValue) (xs ys : List PackageValue) (p : PackageValue) → Rises (x ∷ xs)
    → ((q : PackageValue) → Contains (x ∷ xs) q → Contains (x ∷ ys) q) → Contains xs p → Contains ys p
rest-in x xs ys p r h there = elim (first-or-later x ys p (h p (later-in x xs p there))) [
  | inl is ↦ never-itself x (subst (λ q. package_cmp x q ≡ Less) (sym is) (less-than x xs p r there))
  | inr later ↦ later
]

rising-once : (xs ys : List PackageValue) → Rises xs → Rises ys → ((p : PackageValue) → Contains xs p → Contains ys p)
    → ((p : PackageValue) → Contains ys p → Contains xs p) → xs ≡ ys
rising-once [] [] r s h k = refl
rising-once [] (y ∷ ys) r s h k = none-in y (k y (first-in y ys))
rising-once (x ∷ xs) [] r s h k = none-in x (h x (first-in x xs))
rising-once (x ∷ xs) (y ∷ ys) r s h k =
    let first = first-same x xs y ys r s (h x (first-in x xs)) (k y (first-in y ys)) in
    let rises = subst (λ q. Rises (q ∷ ys)) (sym first) s in
    let over = subst (λ z. (q : PackageValue) → Contains (x ∷ xs) q → Contains (z ∷ ys) q) (sym first) h in
    let back = subst (λ z. (q : PackageValue) → Contains (z ∷ ys) q → Contains (x ∷ xs) q) (sym first) k in
    let rest = rising-once xs ys (sorted_tail package_cmp x xs r) (sorted_tail package_cmp y ys s) (λ p. rest-in x xs ys p r over)
    (λ p. rest-in x ys xs p rises back) in
    λ i. first i ∷ rest i

distinct-once : (packages xs ys : List PackageValue) → AreDistinctPackages packages xs → AreDistinctPackages packages ys → xs ≡ ys
distinct-once packages xs ys h k =
    rising-once xs ys h.rise k.rise (λ p there. (k.same p).1 ((h.same p).0 there)) (λ p there. (h.same p).1 ((k.same p).0 there))

-- ---- the versions of a file

none-left : {P : Type 0} (text : List ℕ) → text ≡ [] → 0 < length text → P
none-left text is low = let size : length text ≡ 0 = ap length is in absurd (omega (arith, size, low))

said-once : (f : IndexForm) (name text : List ℕ) (vs ws : List (Option IndexVersion)) → Entries f name text vs [] → Entries f name text ws [] → vs ≡ ws
said-once f name text [] [] h k = refl
said-once f name text [] (w ∷ ws) h k = none-left text h k.0
said-once f name text (v ∷ vs) [] h k = none-left text k h.0
said-once f name text (v ∷ vs) (w ∷ ws) h k =
    let first = some-same v w (sym h.1 ∙ k.1) in
    let rest = said-once f name (after_entry f text) vs ws h.2 k.2 in
    λ i. first i ∷ rest i

said-or-damaged : {P : Type 0} (f : IndexForm) (name text : List ℕ) (vs ws : List (Option IndexVersion)) (rest : List ℕ) → Entries f name text vs []
    → Entries f name text ws rest → 0 < length rest → first_says f name rest ≡ None → P
said-or-damaged f name text [] [] rest h k low none = none-left rest (sym k ∙ h) low
said-or-damaged f name text [] (w ∷ ws) rest h k low none = none-left text h k.0
said-or-damaged f name text (v ∷ vs) [] rest h k low none = none-or-some (first_says f name rest) v none (ap (first_says f name) (sym k) ∙ h.1)
said-or-damaged f name text (v ∷ vs) (w ∷ ws) rest h k low none = said-or-damaged f name (after_entry f text) vs ws rest h.2 k.2 low none

lists-once : (f : IndexForm) (file name : List ℕ) (vs ws : List IndexVersion) → Lists f file name vs → Lists f file name ws → vs ≡ ws
lists-once f file name vs ws (text, is, (said, h, made)) (other, also, (words, k, formed)) =
    let same = some-same text other (sym is ∙ also) in
    made ∙ (ap versions_said (said-once f name other said words (subst (λ t. Entries f name t said []) same h) k) ∙ sym formed)

lists-or-damage : {P : Type 0} (f : IndexForm) (path file name : List ℕ) (vs : List IndexVersion) (e : Failure) → Lists f file name vs
    → IsDamage f path file name e → P
lists-or-damage f path file name vs e (text, is, more) (left, inl damaged, made) = none-or-some (entries_of f file) text damaged.0 is
lists-or-damage f path file name vs e (text, is, (said, h, formed)) (left, inr (other, also, (words, rest, k, (low, (none, size)))), made) =
    let same = some-same text other (sym is ∙ also) in
    said-or-damaged f name other said words rest (subst (λ t. Entries f name t said []) same h) k low none

-- ---- the answers of folders

module _ (allowed : Allowed) (once : AnswersOnce allowed) where
  names-once : (folder : List ℕ) (xs ys : List (List ℕ)) → AreNames allowed folder xs → AreNames allowed folder ys → xs ≡ ys
  names-once folder xs ys h k =
      let same = some-same (h.0) (k.0) (once.lists folder (Some (h.0)) (Some (k.0)) h.1 k.1) in
      h.2 ∙ (ap names_of same ∙ sym k.2)

  names-or-not : {P : Type 0} (folder : List ℕ) (xs : List (List ℕ)) → AreNames allowed folder xs → allowed.lists folder None → P
  names-or-not folder xs h k = absurd (cc (once.lists folder (Some (h.0)) None h.1 k))

  place-once : (root : List ℕ) (p q : Place) → IsPlace allowed root p → IsPlace allowed root q → p ≡ q
  place-once root p q h k = h.2 ∙ (ap (place_of root) (names-once root (h.0) (k.0) h.1 k.1) ∙ sym k.2)

  place-or-not : {P : Type 0} (root : List ℕ) (p : Place) → IsPlace allowed root p → allowed.lists root None → P
  place-or-not root p h k = names-or-not root (h.0) h.1 k

  shows-once : (folder name : List ℕ) (a b : Bool) → Shows allowed folder name (Some a) → Shows allowed folder name (Some b) → a ≡ b
  shows-once folder name a b h k = sym h.2 ∙ (ap (has name) (names-once folder (h.0) (k.0) h.1 k.1) ∙ k.2)

  shows-or-not : {P : Type 0} (folder name : List ℕ) (a : Bool) → Shows allowed folder name (Some a) → Shows allowed folder name None → P
  shows-or-not folder name a h k = names-or-not folder (h.0) h.1 k

  missing-or-listed : {P : Type 0} (folder : List ℕ) (path : List (List ℕ)) → IsMissing allowed folder path → IsListed allowed folder path → P
  missing-or-listed folder [] h k = absurd h
  missing-or-listed folder (name ∷ more) (inl h) (inl k) = shows-or-not folder name false h k
  missing-or-listed folder (name ∷ more) (inl h) (inr k) = absurd (cc (shows-once folder name false true h k.0))
  missing-or-listed folder (name ∷ more) (inr h) (inl k) = shows-or-not folder name true h.0 k
  missing-or-listed folder (name ∷ more) (inr h) (inr k) = missing-or-listed (under folder name) more h.1 k.1

  file-once : (place : Place) (path : List (List ℕ)) (name : List ℕ) (o p : Option (List IndexVersion)) → IsFileAnswer allowed place path name (Ok o)
      → IsFileAnswer allowed place path name (Ok p) → o ≡ p
  file-once place path name None None h k = refl
  file-once place path name None (Some vs) h k = read-or-not allowed once (below (place.root) path) (k.0) k.1 h.0
  file-once place path name (Some vs) None h k = read-or-not allowed once (below (place.root) path) (h.0) h.1 k.0
  file-once place path name (Some vs) (Some ws) (text, reads, lists) (other, also, again) =
      let same = text-once allowed once (below (place.root) path) text other reads also in
      ap Some (lists-once (place.form) other name vs ws (subst (λ t. Lists (place.form) t name vs) same lists) again)

  file-or-error : {P : Type 0} (place : Place) (path : List (List ℕ)) (name : List ℕ) (o : Option (List IndexVersion)) (e : Failure)
      → IsFileAnswer allowed place path name (Ok o) → IsFileAnswer allowed place path name (Err e) → P
  file-or-error place path name None e h (inl (text, reads, k)) = read-or-not allowed once (below (place.root) path) text reads h.0
  file-or-error place path name None e h (inr k) = missing-or-listed (place.root) path h.1 k.1.1
  file-or-error place path name (Some vs) e (text, reads, lists) (inl (other, also, damage)) =
      let same = text-once allowed once (below (place.root) path) text other reads also in
      lists-or-damage (place.form) (below (place.root) path) other name vs e (subst (λ t. Lists (place.form) t name vs) same lists) damage
  file-or-error place path name (Some vs) e (text, reads, lists) (inr k) = read-or-not allowed once (below (place.root) path) text reads k.1.0

  error-once : (place : Place) (path : List (List ℕ)) (name : List ℕ) (e f : Failure) → IsFileAnswer allowed place path name (Err e)
      → IsFileAnswer allowed place path name (Err f) → e.kind ≡ f.kind
  error-once place path name e f (inl (text, reads, h)) (inl (other, also, k)) = ap (λ (g : Failure). g.kind) h.2 ∙ sym (ap (λ (g : Failure). g.kind) k.2)
  error-once place path name e f (inl (text, reads, h)) (inr k) = read-or-not allowed once (below (place.root) path) text reads k.1.0
  error-once place path name e f (inr h) (inl (text, reads, k)) = read-or-not allowed once (below (place.root) path) text reads h.1.0
  error-once place path name e f (inr h) (inr k) = h.0 ∙ sym k.0

  at-once : (place : Place) (path : Option (List (List ℕ))) (name : List ℕ) (o p : Option (List IndexVersion)) → IsAnswerAt allowed place path name (Ok o)
      → IsAnswerAt allowed place path name (Ok p) → o ≡ p
  at-once place None name o p h k = cc (h ∙ sym k)
  at-once place (Some path) name o p h k = file-once place path name o p h k

  at-or-error : {P : Type 0} (place : Place) (path : Option (List (List ℕ))) (name : List ℕ) (o : Option (List IndexVersion)) (e : Failure)
      → IsAnswerAt allowed place path name (Ok o) → IsAnswerAt allowed place path name (Err e) → P
  at-or-error place None name o e h k = absurd (cc k)
  at-or-error place (Some path) name o e h k = file-or-error place path name o e h k

  at-error-once : (place : Place) (path : Option (List (List ℕ))) (name : List ℕ) (e f : Failure) → IsAnswerAt allowed place path name (Err e)
      → IsAnswerAt allowed place path name (Err f) → e.kind ≡ f.kind
  at-error-once place None name e f h k = absurd (cc h)
  at-error-once place (Some path) name e f h k = error-once place path name e f h k

  -- ---- found packages

  abbrev AreFound : Place → List Found → Type 0
  AreFound place found = AllByRecursion (IsFound allowed place) found

  versions-once : (place : Place) (p q : PackageValue) (o u : Option (List IndexVersion)) → p ≡ q → IsAnswer allowed place (p.name) (Ok o)
      → IsAnswer allowed place (q.name) (Ok u) → o ≡ u
  versions-once place p q o u is h k =
      at-once place (index_path (q.name)) (q.name) o u (subst (λ (x : PackageValue). IsAnswer allowed place (x.name) (Ok o)) is h) k

  found-or-error : {P : Type 0} (place : Place) (p q : PackageValue) (o : Option (List IndexVersion)) (e : Failure) → p ≡ q
      → IsAnswer allowed place (p.name) (Ok o) → IsAnswer allowed place (q.name) (Err e) → P
  found-or-error place p q o e is h k =
      at-or-error place (index_path (q.name)) (q.name) o e (subst (λ (x : PackageValue). IsAnswer allowed place (x.name) (Ok o)) is h) k

  kind-once : (place : Place) (p q : PackageValue) (e f : Failure) → p ≡ q → IsAnswer allowed place (p.name) (Err e)
      → IsAnswer allowed place (q.name) (Err f) → e.kind ≡ f.kind
  kind-once place p q e f is h k =
      at-error-once place (index_path (q.name)) (q.name) e f (subst (λ (x : PackageValue). IsAnswer allowed place (x.name) (Err e)) is h) k

  heads : (x y : PackageValue) (xs ys : List PackageValue) → x ∷ xs ≡ y ∷ ys → (x ≡ y) × (xs ≡ ys)
  heads x y xs ys h = (cc h, cc h)

  found-once : (place : Place) (xs ys : List Found) → packages_of xs ≡ packages_of ys → AreFound place xs → AreFound place ys → xs ≡ ys
  found-once place [] [] is h k = refl
  found-once place [] (y ∷ ys) is h k = absurd (cc is)
  found-once place (x ∷ xs) [] is h k = absurd (cc is)
  found-once place (x ∷ xs) (y ∷ ys) is h k =
      let same = heads (x.wanted) (y.wanted) (packages_of xs) (packages_of ys) is in
      let versions = versions-once place (x.wanted) (y.wanted) (x.versions) (y.versions) same.0 h.0 k.0 in
      let wanted = same.0 in
      let rest = found-once place xs ys same.1 h.1 k.1 in
      λ i. record { wanted = wanted i; versions = versions i } ∷ rest i

  all-or-first : {P : Type 0} (place : Place) (xs ys : List Found) (bad : PackageValue) (rest : List PackageValue) (e : Failure)
      → packages_of xs ≡ packages_of ys ++ bad ∷ rest → AreFound place xs → IsAnswer allowed place (bad.name) (Err e) → P
  all-or-first place [] [] bad rest e is h k = absurd (cc is)
  all-or-first place [] (y ∷ ys) bad rest e is h k = absurd (cc is)
  all-or-first place (x ∷ xs) [] bad rest e is h k =
      found-or-error place (x.wanted) bad (x.versions) e (heads (x.wanted) bad (packages_of xs) rest is).0 h.0 k
  all-or-first place (x ∷ xs) (y ∷ ys) bad rest e is h k =
      all-or-first place xs ys bad rest e (heads (x.wanted) (y.wanted) (packages_of xs) (packages_of ys ++ bad ∷ rest) is).1 h.1 k

  first-kind-once : (place : Place) (xs ys : List Found) (p q : PackageValue) (more rest : List PackageValue) (e f : Failure)
      → packages_of xs ++ p ∷ more ≡ packages_of ys ++ q ∷ rest → AreFound place xs → AreFound place ys → IsAnswer allowed place (p.name) (Err e)
      → IsAnswer allowed place (q.name) (Err f) → e.kind ≡ f.kind
  first-kind-once place [] [] p q more rest e f is h k bad worse = kind-once place p q e f (heads p q more rest is).0 bad worse
  first-kind-once place [] (y ∷ ys) p q more rest e f is h k bad worse =
      found-or-error place (y.wanted) p (y.versions) e (sym (heads p (y.wanted) more (packages_of ys ++ q ∷ rest) is).0) k.0 bad
  first-kind-once place (x ∷ xs) [] p q more rest e f is h k bad worse =
      found-or-error place (x.wanted) q (x.versions) f (heads (x.wanted) q (packages_of xs ++ p ∷ more) rest is).0 h.0 worse
  first-kind-once place (x ∷ xs) (y ∷ ys) p q more rest e f is h k bad worse =
      first-kind-once place xs ys p q more rest e f (heads (x.wanted) (y.wanted) (packages_of xs ++ p ∷ more) (packages_of ys ++ q ∷ rest) is).1 h.1 k.1 bad worse

  -- ---- all packages

  answer-once : (root : List ℕ) (packages : List PackageValue) (y z : YankedPackages) → IsGivenFor allowed root packages y
      → IsGivenFor allowed root packages z → y ≡ z
  answer-once root packages y z h k =
      let place = place-once root h.place k.place h.is_place k.is_place in
      let distinct = distinct-once packages (packages_of h.found) (packages_of k.found) h.are_distinct k.are_distinct in
      let found = found-once k.place h.found k.found distinct (subst (λ (x : Place). AreFound x h.found) place h.are_found) k.are_found in
      let same = h.packages_are ∙ (ap yanked found ∙ sym k.packages_are) in
      let texts = h.unlisted_are ∙ (ap unlisted found ∙ sym k.unlisted_are) in
      λ i. record { packages = same i; unlisted = texts i }

  answer-or-error : {P : Type 0} (root : List ℕ) (packages : List PackageValue) (y : YankedPackages) (e : Failure) (place : Place)
      → IsGivenFor allowed root packages y → IsPlace allowed root place → IsFirstError allowed place packages e → P
  answer-or-error root packages y e place h is k =
      let there = place-once root h.place place h.is_place is in
      let distinct = distinct-once packages (packages_of h.found) (packages_of k.found ++ k.bad ∷ k.rest) h.are_distinct k.are_distinct in
      all-or-first place h.found k.found k.bad k.rest e distinct (subst (λ (x : Place). AreFound x h.found) there h.are_found) k.is_error

  answer-or-refused : (root : List ℕ) (packages : List PackageValue) (y : YankedPackages) (e : Failure) → IsGivenFor allowed root packages y
      → IsRefusedFor allowed root packages e → IsMemory e
  answer-or-refused root packages y e h (inl (inl io)) = place-or-not root h.place h.is_place io.1
  answer-or-refused root packages y e h (inl (inr memory)) = memory
  answer-or-refused root packages y e h (inr (place, is, k)) = answer-or-error root packages y e place h is k

  first-error-once : (root : List ℕ) (packages : List PackageValue) (e f : Failure) (p q : Place) → IsPlace allowed root p → IsPlace allowed root q
      → IsFirstError allowed p packages e → IsFirstError allowed q packages f → e.kind ≡ f.kind
  first-error-once root packages e f p q is also h k =
      let same = place-once root p q is also in
      let distinct = distinct-once packages (packages_of h.found ++ h.bad ∷ h.rest) (packages_of k.found ++ k.bad ∷ k.rest) h.are_distinct k.are_distinct in
      first-kind-once q h.found k.found h.bad k.bad h.rest k.rest e f distinct (subst (λ (x : Place). AreFound x h.found) same h.are_found) k.are_found
      (subst (λ (x : Place). IsAnswer allowed x (h.bad.name) (Err e)) same h.is_error) k.is_error

  refused-once : (root : List ℕ) (packages : List PackageValue) (e f : Failure) → IsRefusedFor allowed root packages e
      → IsRefusedFor allowed root packages f → (e.kind ≡ f.kind) ⊎ (IsMemory e ⊎ IsMemory f)
  refused-once root packages e f (inl (inr memory)) k = inr (inl memory)
  refused-once root packages e f (inl (inl h)) (inl (inr memory)) = inr (inr memory)
  refused-once root packages e f (inr h) (inl (inr memory)) = inr (inr memory)
  refused-once root packages e f (inl (inl h)) (inl (inl k)) = inl (h.0 ∙ sym k.0)
  refused-once root packages e f (inl (inl h)) (inr (place, is, k)) = place-or-not root place is h.1
  refused-once root packages e f (inr (place, is, h)) (inl (inl k)) = place-or-not root place is k.1
  refused-once root packages e f (inr (p, is, h)) (inr (q, also, k)) = inl (first-error-once root packages e f p q is also h k)

-- ---- one result of a call

pub yanked-once : (allowed : Allowed) → AnswersOnce allowed → (root : List ℕ) (packages : List PackageValue) (y z : YankedPackages)
    → IsYankedIn allowed root packages y → IsYankedIn allowed root packages z → y ≡ z
yanked-once allowed once root packages y z h k = answer-once allowed once root (asked packages) y z h k

pub yanked-or-refused : (allowed : Allowed) → AnswersOnce allowed → (root : List ℕ) (packages : List PackageValue) (y : YankedPackages) (e : Failure)
    → IsYankedIn allowed root packages y → IsYankedRefusal allowed root packages e → IsMemory e
yanked-or-refused allowed once root packages y e h k = answer-or-refused allowed once root (asked packages) y e h k

pub yanked-refused-once : (allowed : Allowed) → AnswersOnce allowed → (root : List ℕ) (packages : List PackageValue) (e f : Failure)
    → IsYankedRefusal allowed root packages e → IsYankedRefusal allowed root packages f → (e.kind ≡ f.kind) ⊎ (IsMemory e ⊎ IsMemory f)
yanked-refused-once allowed once root packages e f h k = refused-once allowed once root (asked packages) e f h k
