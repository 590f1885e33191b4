-- A binary search: what it finds among gaps that follow one another, and how many comparisons it makes.
use Rattle.std.proofs.Common.{◌≡◌, ◌+◌, ◌<◌, ◌≤◌, ◌^◌, ℕ, zero, suc, true, false, List, [], ◌∷◌, Option, None, Some, length, map, get_or, refl, subst, sym, arith, inl, inr, ◌∙◌, ◌-◌, ◌⊎◌}
use Rattle.std.specs.List.{AllAdjacentBelow, list_any}
use Rattle.std.specs.Prelude.{is_some}
use Rattle.std.proofs.Math.Nat.{pow-suc, pow-zero}
use Rattle.std.proofs.lemmas.Bool.{and_from, and_left, and_right, cases_Bool}
use Rattle.std.proofs.lemmas.Nat.{pow_pos}
use Rattle.std.proofs.lemmas.List.{get_or-map, get_or_default}
use Rattle.std.proofs.Math.ListN.{length-map}
use Rattle.std.proofs.lemmas.List.Folds.{list_any_at, list_any_none}
use Rattle.semver.specs.Parse.{Parts}
use Rattle.rustsec_versions.specs.ranges.AcceptedRanges.{HasBinaryDigits}
use Rattle.rustsec_versions.specs.ranges.Between.{AreInTurn, EachLaterBegins}
use Rattle.rustsec_versions.specs.ranges.Complement.{cut}
use Rattle.rustsec_versions.specs.interval.Interval.{Endpoint, Interval, exclusive, has_bound, holds, inclusive, is_after, is_before, unbounded}
use Rattle.rustsec_versions.specs.ranges.Ranges.{Range, is_followed, lower_cut}

-- ---- gaps in turn

one-back : (gs : List Interval) (v : Parts) (k : ℕ) (d : Interval) → AreInTurn gs → k + 1 < length gs
    → is_after (get_or gs (k + 1) d).start v ≡ true → is_after (get_or gs k d).start v ≡ true
one-back gs v k d t l h = (t.turn v k d l h).0

-- if a gap begins at or below a version, so does each earlier gap
back : (gs : List Interval) (v : Parts) (n k : ℕ) (d : Interval) → AreInTurn gs → k + n < length gs
    → is_after (get_or gs (k + n) d).start v ≡ true → is_after (get_or gs k d).start v ≡ true
back gs v zero k d t l h =
    let e : k + zero ≡ k = omega arith in
    rw e at h
back gs v (suc n) k d t l h =
    let e : k + suc n ≡ (k + n) + 1 = omega arith in
    back gs v n k d t (omega arith) (one-back gs v (k + n) d t (omega arith) (rw e at h))

partition_point-before : (gs : List Interval) (v : Parts) (k m : ℕ) (d : Interval) → AreInTurn gs → k ≤ m → m < length gs
    → is_after (get_or gs m d).start v ≡ true → is_after (get_or gs k d).start v ≡ true
partition_point-before gs v k m d t low l h =
    let e : m ≡ k + (m - k) = omega arith in
    back gs v (m - k) k d t (omega arith) (rw e at h)

-- if the gap at a place begins at or below a version, so do the gaps before it
pub all-partition_point : (gs : List Interval) (v : Parts) (m : ℕ) (e : Interval) → AreInTurn gs → m < length gs → is_after (get_or gs m e).start v ≡ true
    → (k : ℕ) (d : Interval) → k < m + 1 → is_after (get_or gs k d).start v ≡ true
all-partition_point gs v m e t l h k d low =
    partition_point-before gs v k m d t (omega arith) l (rw (get_or_default gs m e d l) at h)

-- and if it begins above the version, so do the gaps after it
pub none-partition_point : (gs : List Interval) (v : Parts) (m : ℕ) (e : Interval) → AreInTurn gs → m < length gs → is_after (get_or gs m e).start v ≡ false
    → (k : ℕ) (d : Interval) → m ≤ k → k < length gs → is_after (get_or gs k d).start v ≡ false
none-partition_point gs v m e t l h k d low high = elim (cases_Bool (is_after (get_or gs k d).start v)) [
  | inl there ↦
      let earlier : is_after (get_or gs m d).start v ≡ true = partition_point-before gs v m k d t low high there in
      let same : is_after (get_or gs m e).start v ≡ true = rw (get_or_default gs m e d l) earlier in
      cc (sym h ∙ same)
  | inr other ↦ other
]

-- ---- what the search finds

three : (k m : ℕ) → (k < m) ⊎ ((k ≡ m) ⊎ (m < k))
three zero zero = inr (inl refl)
three zero (suc m) = inl (omega arith)
three (suc k) zero = inr (inr (omega arith))
three (suc k) (suc m) = elim (three k m) [
  | inl low ↦ inl (omega arith)
  | inr (inl same) ↦ inr (inl (omega arith))
  | inr (inr high) ↦ inr (inr (omega arith))
]

-- no gap begins at or below the version
pub in-none : (gs : List Interval) (v : Parts) → ((k : ℕ) (d : Interval) → k < length gs → is_after (get_or gs k d).start v ≡ false) → list_any (λ g. holds g v) gs ≡ false
in-none gs v h = list_any_none (λ g. holds g v) gs (λ k d l. and_left _ _ (h k d l))

before-end : (gs : List Interval) (v : Parts) (k : ℕ) (d : Interval) → AreInTurn gs → k + 1 < length gs → is_after (get_or gs (k + 1) d).start v ≡ true
    → holds (get_or gs k d) v ≡ false
before-end gs v k d t l h = and_right _ _ (t.turn v k d l h).1

-- the last gap that begins at or below the version decides
pub in-last : (gs : List Interval) (v : Parts) (m : ℕ) (e : Interval) → AreInTurn gs → m < length gs
    → ((k : ℕ) (d : Interval) → k < m + 1 → is_after (get_or gs k d).start v ≡ true)
    → ((k : ℕ) (d : Interval) → m + 1 ≤ k → k < length gs → is_after (get_or gs k d).start v ≡ false)
    → list_any (λ g. holds g v) gs ≡ is_before (get_or gs m e).end v
in-last gs v m e t l before after = elim (cases_Bool (is_before (get_or gs m e).end v)) [
  | inl inside ↦ list_any_at (λ g. holds g v) gs m e l (and_from _ _ (before m e (omega arith)) inside) ∙ sym inside
  | inr over ↦
      list_any_none (λ g. holds g v) gs (λ k d here. elim (three k m) [
        | inl low ↦ before-end gs v k d t (omega arith) (before (k + 1) d (omega arith))
        | inr (inl same) ↦ rw (same, get_or_default gs m d e l) (and_right _ _ over)
        | inr (inr high) ↦ and_left _ _ (after k d (omega arith) here)
      ]) ∙ sym over
]

-- ---- which gaps have a start

followed-begins : (fixed : Option Parts) (e : Endpoint) → is_followed fixed (lower_cut e) ≡ true → has_bound e ≡ true
followed-begins None unbounded h = cc h
followed-begins None (exclusive v) h = refl
followed-begins None (inclusive v) h = refl
followed-begins (Some fixed) unbounded h = cc h
followed-begins (Some fixed) (exclusive v) h = refl
followed-begins (Some fixed) (inclusive v) h = refl

-- a gap whose range follows another has a start
pub later-begin : (gs : List Interval) → AllAdjacentBelow (λ r s. is_followed r.fixed s.introduced ≡ true) (map cut gs) (length (map cut gs)) → EachLaterBegins gs
later-begin gs followed k d l =
    let all : length (map cut gs) ≡ length gs = length-map gs cut in
    let next : get_or (map cut gs) (k + 1) (cut d) ≡ cut (get_or gs (k + 1) d) = get_or-map cut gs (k + 1) d (cut d) l in
    followed-begins (get_or (map cut gs) k (cut d)).fixed (get_or gs (k + 1) d).start
    (subst (λ (s : Range). is_followed (get_or (map cut gs) k (cut d)).fixed s.introduced ≡ true) next (followed k (cut d) (rw all l)))

-- the gap at a place above 0 has a start
pub begins-at : (gs : List Interval) (m : ℕ) (d : Interval) → EachLaterBegins gs → 0 < m → m < length gs → has_bound (get_or gs m d).start ≡ true
begins-at gs m d starts low high =
    let e : m ≡ (m - 1) + 1 = omega (arith, low) in
    subst (λ (k : ℕ). has_bound (get_or gs k d).start ≡ true) (sym e) (starts (m - 1) d (omega (arith, low, high)))

-- and so has each gap, if the first one has
pub begins-if_first : (gs : List Interval) (m : ℕ) (d : Interval) → EachLaterBegins gs → m < length gs
    → (m ≡ 0 → has_bound (get_or gs 0 d).start ≡ true) → has_bound (get_or gs m d).start ≡ true
begins-if_first gs zero d starts high first = first refl
begins-if_first gs (suc m) d starts high first = begins-at gs (suc m) d starts (omega arith) high

cut-begins : (e : Endpoint) → is_some (lower_cut e) ≡ true → has_bound e ≡ true
cut-begins unbounded h = cc h
cut-begins (exclusive v) h = refl
cut-begins (inclusive v) h = refl

-- if the first range has an introduction, the first gap has a start
pub first-begins : (gs : List Interval) (r : Range) (rest : List Range) → r ∷ rest ≡ map cut gs → is_some r.introduced ≡ true → (e : Interval)
    → has_bound (get_or gs 0 e).start ≡ true
first-begins [] r rest same h e = cc same
first-begins (g ∷ gs) r rest same h e =
    let is : r ≡ cut g = cc same in
    cut-begins g.start (rw is at h)

-- ---- how many comparisons it makes

-- of a search among `n` gaps that had made `old` comparisons at its start and has made `now`, with `left`
-- gaps still to be looked at
pub record WithinDigits (n old left now : ℕ) : Type 0 where
  pub digits : (d : ℕ) → n < 2 ^ d → (k : ℕ) × (left < 2 ^ k) × (now + k ≤ old + d)

pub within-start : (n old : ℕ) → WithinDigits n old n old
within-start n old = record { digits = λ d h. (d, h, omega arith) }

halved : (left less k : ℕ) → 0 < left → less + less ≤ left → left < 2 ^ k → (j : ℕ) × (k ≡ j + 1) × (less < 2 ^ j)
halved left less zero p h l = absurd (omega (arith, pow-zero 2))
halved left less (suc k) p h l = (k, omega arith, omega (arith, pow-suc 2 k))

pub within-half : (n old left now less new : ℕ) → 0 < left → less + less ≤ left → new ≤ now + 1 → WithinDigits n old left now → WithinDigits n old less new
within-half n old left now less new p h s w = record {
  digits = λ d l.
      let (k, small, few) = w.digits d l in
      let (j, same, smaller) = halved left less k p h small in
      (j, smaller, omega arith);
}

pub within-end : (n old left now d : ℕ) → WithinDigits n old left now → n < 2 ^ d → now ≤ old + d
within-end n old left now d w l = let (k, small, few) = w.digits d l in omega arith

-- of a search that had made `old` comparisons at its start and has made `now`: with the halvings of `room` down to 1
-- still to come, it makes at least as many as `n` has, unless the count has reached its greatest number
pub record AtLeastHalvings (n old room now : ℕ) : Type 0 where
  pub halvings : (d : ℕ) → 2 ^ d ≤ n → now < 2 ^ 64 - 1 → (k : ℕ) × (0 < k → 2 ^ k ≤ room) × (old + d ≤ now + k)

pub at_least-start : (n old : ℕ) → AtLeastHalvings n old n old
at_least-start n old = record { halvings = λ d h below. (d, (λ p. h), omega arith) }

unhalved : (room less now new k all : ℕ) → room ≤ less + less + 1 → now ≤ new → (2 ≤ room → now < new) → (0 < k → 2 ^ k ≤ room)
    → all ≤ now + k → (j : ℕ) × (0 < j → 2 ^ j ≤ less) × (all ≤ new + j)
unhalved room less now new zero all h rises counts l few = (0, (λ p. absurd (omega arith)), omega arith)
unhalved room less now new (suc k) all h rises counts l few =
    let big : 2 ^ suc k ≤ room = l (omega arith) in
    let positive : 0 < 2 ^ k = pow_pos k in
    let once : now < new = counts (omega (arith, pow-suc 2 k)) in
    (k, (λ p. omega (arith, pow-suc 2 k)), omega arith)

-- a turn that counts, if there is room for one, leaves half of the room
pub at_least-half : (n old room now less new : ℕ) → room ≤ less + less + 1 → now ≤ new → (2 ≤ room → now < 2 ^ 64 - 1 → now < new)
    → AtLeastHalvings n old room now → AtLeastHalvings n old less new
at_least-half n old room now less new h rises counts w = record {
  halvings = λ d l below.
      let still : now < 2 ^ 64 - 1 = omega (arith, below, rises) in
      let (k, large, few) = w.halvings d l still in
      unhalved room less now new k (old + d) h rises (λ r. counts r still) large few;
}

none-left : (room k : ℕ) → room ≤ 1 → (0 < k → 2 ^ k ≤ room) → k ≡ 0
none-left room zero h l = refl
none-left room (suc k) h l =
    let big : 2 ^ suc k ≤ room = l (omega arith) in
    let positive : 0 < 2 ^ k = pow_pos k in
    absurd (omega (arith, pow-suc 2 k))

pub at_least-end : (n old room now d : ℕ) → room ≤ 1 → AtLeastHalvings n old room now → 2 ^ d ≤ n → now < 2 ^ 64 - 1 → old + d ≤ now
at_least-end n old room now d h w l below =
    let (k, large, few) = w.halvings d l below in
    let none : k ≡ 0 = none-left room k h large in
    omega (arith, none, few)

-- a number with a digit more than `d` is at least `2 ^ d`
pub digits-least : (n d : ℕ) → HasBinaryDigits n (suc d) → 2 ^ d ≤ n
digits-least n d h = elim (three n (2 ^ d)) [
  | inl low ↦ absurd (omega (arith, h.fewest d low))
  | inr (inl same) ↦ omega (arith, same)
  | inr (inr high) ↦ omega (arith, high)
]
