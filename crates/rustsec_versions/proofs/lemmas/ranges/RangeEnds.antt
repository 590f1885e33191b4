-- The first and the last of the gaps, and when there are no gaps.
use Rattle.std.proofs.Common.{◌≡◌, ◌&&◌, ◌||◌, ◌<◌, ◌++◌, ℕ, zero, suc, Bool, true, false, List, [], ◌∷◌, Option, Some, None, map, refl, sym, ap, ◌∙◌, arith, subst, IsPermutation}
use Rattle.std.specs.Prelude.{is_none, is_some, not, swap}
use Rattle.std.specs.List.{list_all, list_any}
use Rattle.std.proofs.lemmas.List.Sorted.{IsPermutation-keeps, list_any-IsPermutation}
use Rattle.semver.specs.Parse.{Parts}
use Rattle.rustsec_versions.specs.ranges.Complement.{cut, gap_before, complement_beyond, complement_from}
use Rattle.rustsec_versions.specs.interval.Interval.{Endpoint, Interval, exclusive, has_bound, inclusive, unbounded}
use Rattle.rustsec_versions.specs.ranges.Ranges.{Range, lower_cut, upper_cut, whole}
use Rattle.rustsec_versions.specs.requirement.Requirement.{end_cut_exists, start_cut_exists}
use Rattle.rustsec_versions.proofs.lemmas.ranges.Adjacent.{AllAdmissible}
use Rattle.rustsec_versions.proofs.lemmas.ranges.Adjacent.{FollowOn, Follows, IsChain}
use Rattle.rustsec_versions.proofs.lemmas.order.LeastAbove.{successor-there}
use Rattle.rustsec_versions.proofs.lemmas.ranges.RangeList.{complement-first}
use Rattle.rustsec_versions.proofs.lemmas.requirement.Sound.{admissible-end, admissible-start}

-- ---- bounds and cuts

pub start-there : (s : Endpoint) → start_cut_exists s ≡ true → is_some (lower_cut s) ≡ has_bound s
start-there unbounded h = refl
start-there (inclusive v) h = refl
start-there (exclusive v) h = let t = successor-there v h in rw t.1 refl

pub end-there : (e : Endpoint) → end_cut_exists e ≡ true → is_some (upper_cut e) ≡ has_bound e
end-there unbounded h = refl
end-there (exclusive v) h = refl
end-there (inclusive v) h = let t = successor-there v h in rw t.1 refl

pub all-starts : (is : List Interval) → AllAdmissible is → list_all (λ c. is_some c.introduced) (map cut is) ≡ list_all (λ i. has_bound i.start) is
all-starts [] a = refl
all-starts (i ∷ is) a = rw (start-there i.start (admissible-start i a.0), all-starts is a.1) refl

pub all-ends : (is : List Interval) → AllAdmissible is → list_all (λ c. is_some c.fixed) (map cut is) ≡ list_all (λ i. has_bound i.end) is
all-ends [] a = refl
all-ends (i ∷ is) a = rw (end-there i.end (admissible-end i a.0), all-ends is a.1) refl

-- ---- the last gap

LastIs : (Range → Type 0) → List Range → Type 0
LastIs P rs = (r : Range) (front : List Range) → rs ≡ front ++ r ∷ [] → P r

last_cons : (P : Range → Type 0) (x : Range) (ys : List Range) → (ys ≡ [] → P x) → LastIs P ys → LastIs P (x ∷ ys)
unfolding LastIs
last_cons P x ys alone later r [] e = let here : x ≡ r = cc e in let none : ys ≡ [] = cc e in subst P here (alone none)
last_cons P x ys alone later r (f ∷ front) e = let rest : ys ≡ front ++ r ∷ [] = cc e in later r front rest

last_none : (P : Range → Type 0) → LastIs P []
unfolding LastIs
last_none P r [] e = cc e
last_none P r (f ∷ front) e = cc e

-- a gap is the last exactly if it has no fix
EndsAs : Bool → List Range → Type 0
EndsAs all rs = LastIs (λ r. is_none r.fixed ≡ all) rs

last_step : (from lo up : Option Parts) (cs : List Range) → FollowOn up cs
    → ((u : Parts) → FollowOn (Some u) cs → EndsAs (list_all (λ c. is_some c.fixed) cs) (complement_from (Some u) cs))
    → EndsAs (is_some up && list_all (λ c. is_some c.fixed) cs) (gap_before from lo (complement_beyond up (complement_from up cs)))
unfolding EndsAs
last_step from None None cs f ih = last_none _
last_step from (Some l) None cs f ih = last_cons _ _ _ (λ e. refl) (last_none _)
last_step from None (Some u) cs f ih = ih u f
last_step from (Some l) (Some u) cs f ih =
    last_cons _ _ _ (λ (none : complement_from (Some u) cs ≡ []). let there = complement-first u cs f in cc (sym none ∙ there.1.1)) (ih u f)

complement-last : (from : Option Parts) (cs : List Range) → IsChain cs → EndsAs (list_all (λ c. is_some c.fixed) cs) (complement_from from cs)
unfolding complement_from EndsAs
complement-last from [] c = last_cons _ _ _ (λ e. refl) (last_none _)
complement-last from (r ∷ cs) c = last_step from r.introduced r.fixed cs c.1 (λ u f. complement-last (Some u) cs c.2)

pub complement-last_fix : (from : Option Parts) (cs : List Range) → IsChain cs → (r : Range) (front : List Range) → complement_from from cs ≡ front ++ r ∷ []
    → is_none r.fixed ≡ list_all (λ c. is_some c.fixed) cs
unfolding EndsAs LastIs
complement-last_fix from cs c = complement-last from cs c

-- ---- the first gap

-- after a range with an end, each range has a beginning
all_begin : (up : Option Parts) (cs : List Range) → FollowOn up cs → IsChain cs → list_all (λ c. is_some c.introduced) cs ≡ true
all_begin up [] f c = refl
all_begin up (r ∷ cs) f c = begins up r.introduced r.fixed cs f (all_begin r.fixed cs c.1 c.2)
  where
    begins : (up lo t : Option Parts) (cs : List Range) → Follows up lo → list_all (λ c. is_some c.introduced) cs ≡ true
        → (is_some lo && list_all (λ c. is_some c.introduced) cs) ≡ true
    begins None lo t cs f h = absurd f
    begins (Some u) None t cs f h = absurd f
    begins (Some u) (Some l) t cs f h = h

head_same : (r s : Range) (rs ss : List Range) → r ∷ rs ≡ s ∷ ss → r ≡ s
head_same r s rs ss e = cc e

first_gap : (lo up : Option Parts) (cs : List Range) → FollowOn up cs → IsChain cs → (r : Range) (rest : List Range)
    → gap_before None lo (complement_beyond up (complement_from up cs)) ≡ r ∷ rest → is_none r.introduced ≡ (is_some lo && list_all (λ c. is_some c.introduced) cs)
first_gap None None cs f c r rest e = cc e
first_gap None (Some u) cs f c r rest e =
    let there = complement-first u cs f in
    let same : record { introduced = Some u; fixed = there.0 } ≡ r = head_same _ r _ rest (sym there.1.1 ∙ e) in
    ap (λ (x : Range). is_none x.introduced) (sym same)
first_gap (Some l) up cs f c r rest e =
    let same : record { introduced = None; fixed = Some l } ≡ r = head_same _ r _ rest e in
    ap (λ (x : Range). is_none x.introduced) (sym same) ∙ sym (all_begin up cs f c)

-- the first gap lacks its introduction exactly if each range has a beginning
pub complement-first_introduction : (cs : List Range) → IsChain cs → (r : Range) (rest : List Range) → complement_from None cs ≡ r ∷ rest
    → is_none r.introduced ≡ list_all (λ c. is_some c.introduced) cs
unfolding complement_from
complement-first_introduction [] c r rest e =
    let same : record { introduced = None; fixed = None } ≡ r = head_same _ r [] rest e in
    ap (λ (x : Range). is_none x.introduced) (sym same)
complement-first_introduction (d ∷ cs) c r rest e = first_gap d.introduced d.fixed cs c.1 c.2 r rest e

-- ---- no gap

one_left : (lo up : Option Parts) (cs : List Range) → FollowOn up cs → gap_before None lo (complement_beyond up (complement_from up cs)) ≡ []
    → (lo ≡ None) × ((up ≡ None) × (cs ≡ []))
one_left None None [] f e = (refl, (refl, refl))
one_left None None (d ∷ cs) f e = absurd f
one_left None (Some u) cs f e = let there = complement-first u cs f in cc (sym e ∙ there.1.1)
one_left (Some l) up cs f e = cc e

no_lower : (s : Endpoint) → start_cut_exists s ≡ true → lower_cut s ≡ None → s ≡ unbounded
no_lower unbounded h e = refl
no_lower (inclusive v) h e = cc e
no_lower (exclusive v) h e = let t = successor-there v h in cc (sym e ∙ t.1)

no_upper : (s : Endpoint) → end_cut_exists s ≡ true → upper_cut s ≡ None → s ≡ unbounded
no_upper unbounded h e = refl
no_upper (exclusive v) h e = cc e
no_upper (inclusive v) h e = let t = successor-there v h in cc (sym e ∙ t.1)

map_none : (is : List Interval) → map cut is ≡ [] → is ≡ []
map_none [] e = refl
map_none (i ∷ is) e = cc e

interval_same : (i j : Interval) → i.start ≡ j.start → i.end ≡ j.end → i ≡ j
interval_same i j h k = λ n. record { start = h n; end = k n }

-- there is no gap exactly if the one interval has no bounds
pub complement-none : (is : List Interval) → AllAdmissible is → IsChain (map cut is) → complement_from None (map cut is) ≡ [] → is ≡ whole ∷ []
unfolding complement_from
complement-none [] a c e = cc e
complement-none (i ∷ is) a c e =
    let (lo, (up, rest)) = one_left (lower_cut i.start) (upper_cut i.end) (map cut is) c.1 e in
    let first : i ≡ whole =
    interval_same i whole (no_lower i.start (admissible-start i a.0) lo) (no_upper i.end (admissible-end i a.0) up) in
    rw (first, map_none is rest) refl

pub complement-whole : complement_from None (map cut (whole ∷ [])) ≡ []
unfolding complement_from
complement-whole = refl

swap_one : {X : Type 0} (w : X) (i j : ℕ) → i < 1 → j < 1 → swap (w ∷ []) i j ≡ w ∷ []
swap_one w zero zero h k = refl
swap_one w zero (suc j) h k = absurd (omega arith)
swap_one w (suc i) j h k = absurd (omega arith)

-- the other order of one element is itself
pub one-IsPermutation : {X : Type 0} (w : X) (ys : List X) → IsPermutation (w ∷ []) ys → ys ≡ w ∷ []
one-IsPermutation w ys p =
    IsPermutation-keeps (w ∷ []) (λ l. l ≡ w ∷ []) refl
    (λ l i j h k e. let a : i < 1 = rw e at h in let b : j < 1 = rw e at k in rw e (swap_one w i j a b)) ys p

-- ---- all of a list, in another order

all-any : {X : Type 0} (p : X → Bool) (xs : List X) → list_all p xs ≡ not (list_any (λ x. not (p x)) xs)
all-any p [] = refl
all-any p (x ∷ xs) = rw (all-any p xs) (opposite_bound (p x) (list_any (λ y. not (p y)) xs))
  where
    opposite_bound : (a b : Bool) → (a && not b) ≡ not (not a || b)
    opposite_bound true b = refl
    opposite_bound false b = refl

pub list_all-IsPermutation : {X : Type 0} (p : X → Bool) (xs ys : List X) → IsPermutation xs ys → list_all p xs ≡ list_all p ys
list_all-IsPermutation p xs ys h =
    all-any p xs ∙ ap not (list_any-IsPermutation (λ x. not (p x)) xs ys h) ∙ sym (all-any p ys)
