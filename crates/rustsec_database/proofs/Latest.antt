-- The latest of some dates, found in one pass.
use Rattle.std.proofs.Common.{◌≡◌, ◌∙◌, ◌||◌, ℕ, Bool, true, false, cond, List, [], ◌∷◌, ◌++◌, Option, Some, None, refl, sym, ap, append-nil, append_assoc, inl, inr, subst, ◌+◌, ◌<◌, ◌≤◌, get_or, length, map, take}
use Rattle.std.specs.Cmp.Lexicographic.{bytes_decides, pointwise, slice_cmp, texts_ties}
use Rattle.std.specs.List.{find, list_all, list_any}
use Rattle.std.specs.Ordering.{is_eq, is_gt, is_le, nat_cmp, ordering_reverse}
use Rattle.std.specs.Prelude.{nat_eq}
use Rattle.std.specs.declared.cmp.Ordering.{Ordering}
use Rattle.std.specs.declared.cmp.Ordering.TheVariants as ordering
use Rattle.std.proofs.lemmas.Bool.{and_from, cases_Bool, or_left, or_right}
use Rattle.std.proofs.lemmas.Cmp.{nat_list_cmp_total, tied_itself, upto}
use Rattle.std.proofs.lemmas.List.Folds.{list_all-append, list_any-append}
use mathlib.Core.Bool.{true≢false}
use Rattle.std.proofs.lemmas.List.{map-append, take_all, take_more}
use Rattle.std.specs.Cmp.{first_so, second_so}
use Rattle.rustsec_advisory.specs.declared.advisory.Advisory.{Advisory}
use Rattle.rustsec_database.specs.Latest.{last_date, later, latest}

-- whether a date is not after another one, and whether they are the same
abbrev pub till : List ℕ → List ℕ → Bool
till d e = is_le (slice_cmp nat_cmp d e)

abbrev same : List ℕ → List ℕ → Bool
same d e = pointwise nat_eq e d

-- ---- the order

both_le : (o : Ordering) → is_le o ≡ true → is_le (ordering_reverse o) ≡ true → is_eq o ≡ true
both_le ordering.Less h k = cc k
both_le ordering.Equal h k = refl
both_le ordering.Greater h k = cc h

not_gt : (o : Ordering) → is_le o ≡ true → is_gt o ≡ false
not_gt ordering.Less h = refl
not_gt ordering.Equal h = refl
not_gt ordering.Greater h = cc h

le_not_gt : (o : Ordering) → is_gt o ≡ false → is_le o ≡ true
le_not_gt ordering.Less h = refl
le_not_gt ordering.Equal h = refl
le_not_gt ordering.Greater h = cc h

turned : (o : Ordering) → is_le o ≡ false → is_le (ordering_reverse o) ≡ true
turned ordering.Less h = cc h
turned ordering.Equal h = cc h
turned ordering.Greater h = refl

till-both : (d e : List ℕ) → till d e ≡ true → till e d ≡ true → d ≡ e
till-both d e h k =
    let back : is_le (ordering_reverse (slice_cmp nat_cmp d e)) ≡ true = ap is_le (sym (nat_list_cmp_total.antisymm e d)) ∙ k in
    (bytes_decides d e).0 (texts_ties d e ∙ both_le (slice_cmp nat_cmp d e) h back)

till-self : (d : List ℕ) → till d d ≡ true
till-self d = ap is_le (tied_itself nat_list_cmp_total d)

till-turned : (d e : List ℕ) → till d e ≡ false → till e d ≡ true
till-turned d e h = ap is_le (nat_list_cmp_total.antisymm e d) ∙ turned (slice_cmp nat_cmp d e) h

till-till : (d e f : List ℕ) → till d e ≡ true → till e f ≡ true → till d f ≡ true
till-till d e f h k =
    le_not_gt (slice_cmp nat_cmp d f) (upto nat_list_cmp_total d e f (not_gt (slice_cmp nat_cmp d e) h) (not_gt (slice_cmp nat_cmp e f) k))

-- ---- lists of dates

other-one : (a b : Bool) → a ≡ false → (a || b) ≡ true → b ≡ true
other-one a b h k = rw h at k

-- what each date meets, one among them meets
all-same : (p : List ℕ → Bool) (d : List ℕ) (ds : List (List ℕ)) → list_all p ds ≡ true → list_any (same d) ds ≡ true → p d ≡ true
all-same p d [] h k = cc k
all-same p d (x ∷ xs) h k = elim (cases_Bool (same d x)) [
  | inl is ↦ ap p (sym ((bytes_decides x d).0 is)) ∙ first_so (p x) (list_all p xs) h
  | inr other ↦ all-same p d xs (second_so (p x) (list_all p xs) h) (other-one (same d x) (list_any (same d) xs) other k)
]

-- dates that are not after one are not after a later one
all-later : (d e : List ℕ) (ds : List (List ℕ)) → till d e ≡ true → list_all (λ x. till x d) ds ≡ true → list_all (λ x. till x e) ds ≡ true
all-later d e [] h k = refl
all-later d e (x ∷ xs) h k =
    and_from (till x e) (list_all (λ y. till y e) xs) (till-till x d e (first_so (till x d) (list_all (λ y. till y d) xs) k) h)
    (all-later d e xs h (second_so (till x d) (list_all (λ y. till y d) xs) k))

find-only : (p : List ℕ → Bool) (d : List ℕ) → p d ≡ true → ((x : List ℕ) → till x d ≡ true → p x ≡ true → x ≡ d) → (xs : List (List ℕ))
    → list_all (λ x. till x d) xs ≡ true → list_any (same d) xs ≡ true → find p xs ≡ Some d
find-only p d holds only [] h k = cc k
find-only p d holds only (x ∷ xs) h k = elim (cases_Bool (p x)) [
  | inl passes ↦ rw passes (ap Some (only x (first_so (till x d) (list_all (λ y. till y d) xs) h) passes))
  | inr other ↦
      let differs : same d x ≡ false = elim (cases_Bool (same d x)) [
        | inl is ↦ absurd (true≢false (sym (ap p ((bytes_decides x d).0 is) ∙ holds) ∙ other))
        | inr unlike ↦ unlike
      ] in
      rw other (find-only p d holds only xs (second_so (till x d) (list_all (λ y. till y d) xs) h) (other-one (same d x) (list_any (same d) xs) differs k))
]

-- ---- the latest one

-- none of no dates, and else one among them that none of them is after
abbrev pub IsLatest : List (List ℕ) → Option (List ℕ) → Type 0
IsLatest ds None = ds ≡ []
IsLatest ds (Some d) = (list_all (λ x. till x d) ds ≡ true) × (list_any (same d) ds ≡ true)

pub latest-is : (ds : List (List ℕ)) (o : Option (List ℕ)) → IsLatest ds o → latest ds ≡ o
latest-is ds None h = rw h refl
latest-is ds (Some d) h =
    find-only (λ x. list_all (λ y. till y x) ds) d h.0
    (λ x before all. till-both x d before (all-same (λ y. till y x) d ds all h.1)) ds h.0 h.1

pub latest-start : IsLatest [] None
latest-start = refl

one-more : (d other : List ℕ) (ds : List (List ℕ)) (b : Bool) → till d other ≡ b → IsLatest ds (Some other)
    → IsLatest (ds ++ d ∷ []) (cond b (Some other) (Some d))
one-more d other ds true h k = (
  list_all-append (λ x. till x other) ds (d ∷ []) ∙ and_from (list_all (λ x. till x other) ds) _ k.0 (and_from (till d other) true h refl),
  list_any-append (same other) ds (d ∷ []) ∙ or_left (list_any (same other) ds) _ k.1,
)
one-more d other ds false h k = (
  list_all-append (λ x. till x d) ds (d ∷ []) ∙ and_from (list_all (λ x. till x d) ds) _ (all-later other d ds (till-turned d other h) k.0) (and_from (till d d) true (till-self d) refl),
  list_any-append (same d) ds (d ∷ []) ∙ or_right (list_any (same d) ds) _ (or_left (same d d) false ((bytes_decides d d).1 refl)),
)

pub latest-more : (ds : List (List ℕ)) (o : Option (List ℕ)) (d : List ℕ) → IsLatest ds o → IsLatest (ds ++ d ∷ []) (later o d)
latest-more ds None d h = rw h (and_from (till d d) true (till-self d) refl, or_left (same d d) false ((bytes_decides d d).1 refl))
latest-more ds (Some other) d h = one-more d other ds (till d other) refl h

-- ---- the dates of advisories

abbrev pub dates : List Advisory → List (List ℕ)
dates advisories = map (λ (a : Advisory). a.metadata.date) advisories

pub dates-more : (advisories : List Advisory) (i : ℕ) (a : Advisory) (o p : Option (List ℕ)) → i < length advisories → a ≡ get_or advisories i a
    → IsLatest (dates (take i advisories)) o → p ≡ later o a.metadata.date → IsLatest (dates (take (i + 1) advisories)) p
dates-more advisories i a o p lt at h e =
    let more : dates (take (i + 1) advisories) ≡ dates (take i advisories) ++ a.metadata.date ∷ [] =
    ap dates (take_more advisories i a lt ∙ ap (λ x. take i advisories ++ x ∷ []) (sym at)) ∙ map-append _ (take i advisories) (a ∷ []) in
    let P : List (List ℕ) → Type 0 = λ ds. IsLatest ds p in
    let Q : Option (List ℕ) → Type 0 = λ q. IsLatest (dates (take i advisories) ++ a.metadata.date ∷ []) q in
    subst P (sym more) (subst Q (sym e) (latest-more (dates (take i advisories)) o a.metadata.date h))

pub dates-all : (advisories : List Advisory) (i : ℕ) (o : Option (List ℕ)) → length advisories ≤ i → IsLatest (dates (take i advisories)) o
    → o ≡ latest (dates advisories)
dates-all advisories i o all h = sym (latest-is (dates (take i advisories)) o h) ∙ ap (λ xs. latest (dates xs)) (take_all i advisories all)

-- there is a latest date of all, after those before
latest-from : (before ds : List (List ℕ)) (o : Option (List ℕ)) → IsLatest before o → (p : Option (List ℕ)) × IsLatest (before ++ ds) p
latest-from before [] o h = (o, subst (λ xs. IsLatest xs o) (sym (append-nil before)) h)
latest-from before (d ∷ ds) o h =
    let (p, is) = latest-from (before ++ d ∷ []) ds (later o d) (latest-more before o d h) in
    (p, subst (λ xs. IsLatest xs p) (append_assoc before (d ∷ []) ds) is)

-- the latest date with one advisory more
pub last-date-more : (advisories : List Advisory) (a : Advisory) → later (last_date advisories) a.metadata.date ≡ last_date (advisories ++ a ∷ [])
last-date-more advisories a =
    let (o, is) = latest-from [] (dates advisories) None latest-start in
    ap (λ p. later p a.metadata.date) (latest-is (dates advisories) o is)
    ∙ (sym (latest-is (dates advisories ++ a.metadata.date ∷ []) (later o a.metadata.date) (latest-more (dates advisories) o a.metadata.date is))
    ∙ ap latest (sym (map-append (λ (b : Advisory). b.metadata.date) advisories (a ∷ []))))
