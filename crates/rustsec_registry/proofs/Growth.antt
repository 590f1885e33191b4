-- How the kept answers grow.
use Rattle.std.proofs.Common.{◌≡◌, ◌≢◌, ◌∙◌, ◌+◌, ◌<◌, get_or, length, map, take, drop, ◌++◌, ◌⊎◌, inl, inr, ℕ, true, false, cond, List, [], ◌∷◌, Option, Some, None, nat_eq, refl, sym, ap}
use Rattle.std.specs.Prelude.{Contains, IfErr, IfOk, IsSome, OnOk, Result, Ok, Err, is_some}
use Rattle.std.specs.Borrow.{Bor}
use Rattle.std.specs.Cmp.Lexicographic.{bytes_decides, pointwise}
use Rattle.std.proofs.lemmas.List.Folds.{Any-from_list_any, list_any-append, list_any-from_Any}
use Rattle.std.proofs.lemmas.List.{map-append, map_more, take-append-drop}
use Rattle.std.proofs.lemmas.Bool.{cases_Bool, or_cases, or_parts}
use Rattle.rustsec_values.specs.Failure.{Failure}
use Rattle.rustsec_values.specs.declared.error.ErrorKind.TheVariants as kind
use Rattle.rustsec_lock.specs.Package.{PackageValue}
use Rattle.rustsec_registry.specs.Lookups.{Answer, AreAnswers, IsKeptOf, IsKeptOfSome, Kept, at}
use Rattle.rustsec_registry.specs.Packages.{AreDistinctPackages, has_name}
use Rattle.rustsec_registry.specs.Yanked.{AreKept, Grows}

-- ---- names of packages

-- a name of packages, and of one more
named-both : (name : List ℕ) (ps qs : List PackageValue) → has_name name (ps ++ qs) ≡ true → (has_name name ps ≡ true) ⊎ (has_name name qs ≡ true)
named-both name ps qs h = or_cases _ _ (sym (list_any-append (λ (p : PackageValue). pointwise nat_eq name p.name) ps qs) ∙ h)

unnamed-both : (name : List ℕ) (ps qs : List PackageValue) → has_name name (ps ++ qs) ≡ false → (has_name name ps ≡ false) × (has_name name qs ≡ false)
unnamed-both name ps qs h = or_parts _ _ (sym (list_any-append (λ (p : PackageValue). pointwise nat_eq name p.name) ps qs) ∙ h)

-- a name of one package
named-one : (name : List ℕ) (p : PackageValue) → has_name name (p ∷ []) ≡ true → name ≡ p.name
named-one name p h = elim (or_cases (pointwise nat_eq name p.name) false h) [
  | inl same ↦ (bytes_decides name p.name).0 same
  | inr none ↦ cc none
]

-- packages that are among others have no other names
named-among : (ps qs : List PackageValue) (name : List ℕ) → ((p : PackageValue) → Contains ps p → Contains qs p) → has_name name ps ≡ true → has_name name qs ≡ true
named-among ps qs name among h =
    let here = Any-from_list_any (λ (p : PackageValue). pointwise nat_eq name p.name) ps h in
    let there = among here.1 (here.0, here.2, here.3) in
    list_any-from_Any (λ (p : PackageValue). pointwise nat_eq name p.name) qs (there.0, here.1, there.1, there.2, here.4)

unnamed-among : (ps qs : List PackageValue) (name : List ℕ) → ((p : PackageValue) → Contains ps p → Contains qs p) → has_name name qs ≡ false → has_name name ps ≡ false
unnamed-among ps qs name among h = elim (cases_Bool (has_name name ps)) [
  | inl yes_there ↦ cc (sym (named-among ps qs name among yes_there) ∙ h)
  | inr not_there ↦ not_there
]

-- ---- growth

pub grows-none : (ps : List PackageValue) (old : List (List ℕ × Kept)) → Grows ps old old
grows-none ps old = record { same = λ name k h. h; others = λ name h. refl }

pub grows-both : (ps qs : List PackageValue) (old mid new : List (List ℕ × Kept)) → Grows ps old mid → Grows qs mid new → Grows (ps ++ qs) old new
grows-both ps qs old mid new a b = record {
  same = λ name k h. b.same name k (a.same name k h);
  others = λ name h. b.others name (unnamed-both name ps qs h).1 ∙ a.others name (unnamed-both name ps qs h).0;
}

-- for packages that are among others
pub grows-among : (ps qs : List PackageValue) (old new : List (List ℕ × Kept)) → ((p : PackageValue) → Contains ps p → Contains qs p) → Grows ps old new → Grows qs old new
grows-among ps qs old new among g = record { same = g.same; others = λ name h. g.others name (unnamed-among ps qs name among h) }

-- a new answer at a name
abbrev pub IsPut : List ℕ → List (List ℕ × Kept) → List (List ℕ × Kept) → Kept → Type 0
IsPut key old new kept = (q : List ℕ) → at q new ≡ cond (pointwise nat_eq q key) (Some kept) (at q old)

put-at : (name key : List ℕ) (old new : List (List ℕ × Kept)) (kept : Kept) → key ≡ name → IsPut key old new kept → IsPut name old new kept
put-at name key old new kept is put = rw (← is) put

-- a new answer of a package's name that had none
pub grows-new : (p : PackageValue) (old new : List (List ℕ × Kept)) (key : List ℕ) (kept : Kept) → key ≡ p.name → at p.name old ≡ None
    → IsPut key old new kept → Grows (p ∷ []) old new
grows-new p old new key kept is none put =
    let are = put-at p.name key old new kept is put in
    record {
      same = λ name k h. elim (cases_Bool (pointwise nat_eq name p.name)) [
        | inl same ↦ cc (sym h ∙ ap (λ n. at n old) ((bytes_decides name p.name).0 same) ∙ none)
        | inr other ↦ are name ∙ rw other h
      ];
      others = λ name h. are name ∙ rw (or_parts (pointwise nat_eq name p.name) false h).0 refl;
    }

pub here-now : (name key : List ℕ) (old new : List (List ℕ × Kept)) (kept : Kept) → key ≡ name → IsPut key old new kept → IsSome (at name new)
here-now name key old new kept is put =
    rw (put-at name key old new kept is put name, (bytes_decides name name).1 refl) refl

pub none-from : {A : Type 0} (o : Option A) → is_some o ≡ false → o ≡ None
none-from None h = refl
none-from (Some x) h = cc h

-- ---- all packages have answers

some-kept : {A : Type 0} (o n : Option A) → IsSome o → ((x : A) → o ≡ Some x → n ≡ Some x) → IsSome n
some-kept None n h f = cc h
some-kept (Some x) n h f = rw (f x refl) refl

pub kept-none : (entries : List (List ℕ × Kept)) → AreKept [] entries
kept-none entries name h = cc h

pub kept-more : (ps : List PackageValue) (p : PackageValue) (mid new : List (List ℕ × Kept)) → AreKept ps mid → Grows (p ∷ []) mid new
    → IsSome (at p.name new) → AreKept (ps ++ p ∷ []) new
kept-more ps p mid new all g this name h = elim (named-both name ps (p ∷ []) h) [
  | inl before ↦ some-kept (at name mid) (at name new) (all name before) (g.same name)
  | inr here ↦ rw (named-one name p here) this
]

pub kept-among : (ps qs : List PackageValue) (new : List (List ℕ × Kept)) → ((p : PackageValue) → Contains qs p → Contains ps p) → AreKept ps new → AreKept qs new
kept-among ps qs new among all name h = all name (named-among qs ps name among h)

-- ---- answers that may be given

pub given-new : (answers : List ℕ → Answer → Type 0) (name key : List ℕ) (old new : List (List ℕ × Kept)) (kept : Kept) → key ≡ name → IsPut key old new kept
    → IsKeptOfSome (answers name) kept → AreAnswers answers old → AreAnswers answers new
given-new answers name key old new kept is put this all q k h =
    let are = put-at name key old new kept is put in
    elim (cases_Bool (pointwise nat_eq q name)) [
      | inl same ↦
          let found : Some kept ≡ Some k = sym (are q ∙ rw same refl) ∙ h in
          let value : kept ≡ k = cc found in
          rw ((bytes_decides q name).0 same, ← value) this
      | inr other ↦ all q k (sym (are q ∙ rw other refl) ∙ h)
    ]

-- the cached form of an answer that was given
pub was-given : (answers : Answer → Type 0) (a : Answer) (k : Kept) → IfOk a (λ v. answers (Ok v))
    → IfErr a (λ (e : Failure). e.kind ≢ kind.OutOfMemory → answers (Err e)) → IsKeptOf a k → IsKeptOfSome answers k
was-given answers (Ok v) k ok err h = (Ok v, ok, h)
was-given answers (Err e) (Ok o) ok err h = absurd h
was-given answers (Err e) (Err f) ok err h = (Err e, err h.1, h)

-- ---- in a loop over references

abbrev read : Bor PackageValue → PackageValue
read p = p.now

pub grows-step : (ps : List (Bor PackageValue)) (i : ℕ) (p : Bor PackageValue) (old mid new : List (List ℕ × Kept)) → i < length ps → p ≡ get_or ps i p
    → Grows (map (λ x. x.now) (take i ps)) old mid → Grows (p.now ∷ []) mid new → Grows (map (λ x. x.now) (take (i + 1) ps)) old new
grows-step ps i p old mid new l is before this =
    rw (map_more read ps i p l, ← is) (grows-both (map read (take i ps)) (p.now ∷ []) old mid new before this)

pub grows-whole : (ps : List (Bor PackageValue)) (n : ℕ) (old new : List (List ℕ × Kept)) → Grows (map (λ x. x.now) (take n ps)) old new
    → Grows (map (λ x. x.now) ps) old new
grows-whole ps n old new g =
    let both = grows-both (map read (take n ps)) (map read (drop n ps)) old new new g (grows-none _ new) in
    let whole : map read (take n ps) ++ map read (drop n ps) ≡ map read ps = sym (map-append read (take n ps) (drop n ps)) ∙ ap (map read) (take-append-drop n ps) in
    rw (← whole) both

pub kept-step : (ps : List (Bor PackageValue)) (i : ℕ) (p : Bor PackageValue) (mid new : List (List ℕ × Kept)) → i < length ps → p ≡ get_or ps i p
    → AreKept (map (λ x. x.now) (take i ps)) mid → Grows (p.now ∷ []) mid new → IsSome (at p.now.name new)
    → AreKept (map (λ x. x.now) (take (i + 1) ps)) new
kept-step ps i p mid new l is all g this =
    rw (map_more read ps i p l, ← is) (kept-more (map read (take i ps)) p.now mid new all g this)

-- ---- the distinct ones

pub grows-distinct : (packages : List PackageValue) (ds refs : List (Bor PackageValue)) (old new : List (List ℕ × Kept)) → refs ≡ ds
    → AreDistinctPackages packages (map (λ x. x.now) ds) → Grows (map (λ x. x.now) refs) old new → Grows packages old new
grows-distinct packages ds refs old new is d g =
    grows-among (map read refs) packages old new (λ p. rw is (d.same p).0) g

pub kept-distinct : (packages : List PackageValue) (ds refs : List (Bor PackageValue)) (new : List (List ℕ × Kept)) → refs ≡ ds
    → AreDistinctPackages packages (map (λ x. x.now) ds) → AreKept (map (λ x. x.now) refs) new → AreKept packages new
kept-distinct packages ds refs new is d all =
    kept-among (map read refs) packages new (λ p. rw is (d.same p).1) all

pub on_ok-always : {A E P : Type 0} (r : Result A E) → P → OnOk r P
on_ok-always (Ok x) p = p
on_ok-always (Err e) p = tt
