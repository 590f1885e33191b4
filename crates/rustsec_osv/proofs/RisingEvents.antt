-- The events of rising ranges mean the same as the ranges.
use Rattle.std.proofs.Common.{◌≡◌, ◌++◌, Bool, true, false, cond, List, [], ◌∷◌, Option, Some, None, length, refl, sym, ◌∙◌, inl, inr}
use Rattle.std.specs.Prelude.{filter}
use Rattle.std.specs.List.{AllAdjacentBelow, list_all}
use Rattle.std.proofs.lemmas.Bool.{and_parts, cases_Bool, true_from_ne_false}
use Rattle.semver.specs.Parse.{Parts}
use Rattle.rustsec_versions.specs.order.Precedence.{IsVersion, is_at_most, is_below, least_of}
use Rattle.rustsec_versions.specs.ranges.Ranges.{Range, in_ranges, is_followed, is_from, is_in_order}
use Rattle.rustsec_versions.proofs.lemmas.order.PrecedenceLaws.{at_most-not_below, below-at_most, below-not_at_most, below-weak, not_at_most}
use Rattle.rustsec_versions.proofs.lemmas.ranges.RangeList.{AllFollowed, followed-to}
use Rattle.rustsec_osv.specs.DocumentEvents.{Event}
use Rattle.rustsec_osv.specs.Events.{beginning, ends_introduced, events_of, events_say, is_introduction, is_until}
use Rattle.rustsec_osv.proofs.LeastVersion.{least-at_most}

-- ---- events one by one

-- the answer after some events, from the answer before them
abbrev said : List Event → Parts → Bool → Bool
said [] v before = before
said (e ∷ es) v before = said es v (cond (is_until v e) (is_introduction e) before)

abbrev ends_with : Bool → List Event → Bool
ends_with before [] = before
ends_with before (e ∷ es) = ends_introduced (e ∷ es)

ends_step : (before : Bool) (e : Event) (es : List Event) → ends_with before (e ∷ es) ≡ ends_with (is_introduction e) es
ends_step before e [] = refl
ends_step before e (f ∷ es) = refl

said-ends : (es : List Event) (v : Parts) (before : Bool) → said es v before ≡ ends_with before (filter (is_until v) es)
said-ends [] v before = refl
said-ends (e ∷ es) v before = elim (cases_Bool (is_until v e)) [
  | inl counted ↦ rw (counted, said-ends es v (is_introduction e)) (sym (ends_step before e (filter (is_until v) es)))
  | inr other ↦ rw (other, said-ends es v before) refl
]

starts_false : (es : List Event) → ends_with false es ≡ ends_introduced es
starts_false [] = refl
starts_false (e ∷ es) = refl

say-said : (es : List Event) (v : Parts) → events_say es v ≡ said es v false
unfolding events_say
say-said es v = sym (said-ends es v false ∙ starts_false (filter (is_until v) es))

said-append : (xs ys : List Event) (v : Parts) (before : Bool) → said (xs ++ ys) v before ≡ said ys v (said xs v before)
said-append [] ys v before = refl
said-append (x ∷ xs) ys v before = said-append xs ys v (cond (is_until v x) (is_introduction x) before)

-- ---- ranges above a version

abbrev AllInOrder : List Range → Type 0
AllInOrder [] = Unit {0}
AllInOrder (r ∷ rs) = (is_in_order r.introduced r.fixed ≡ true) × AllInOrder rs

in_order-to : (rs : List Range) → list_all (λ r. is_in_order r.introduced r.fixed) rs ≡ true → AllInOrder rs
in_order-to [] h = tt
in_order-to (r ∷ rs) h = let both = and_parts _ _ h in (both.0, in_order-to rs both.1)

-- whether the first range, if any, begins at or above a version
abbrev Begins : Parts → List Range → Type 0
Begins b [] = Unit {0}
Begins b (r ∷ rs) = is_followed (Some b) r.introduced ≡ true

next : (r : Range) (rs : List Range) (hi : Parts) → r.fixed ≡ Some hi → AllFollowed (r ∷ rs) → Begins hi rs
next r [] hi e a = tt
next r (s ∷ rs) hi e a = rw e at a.0

rest : (r : Range) (rs : List Range) → AllFollowed (r ∷ rs) → AllFollowed rs
rest r [] a = tt
rest r (s ∷ rs) a = a.1

-- a range without a fix is the last one
last : (r : Range) (rs : List Range) → r.fixed ≡ None → AllFollowed (r ∷ rs) → rs ≡ []
last r [] e a = refl
last r (s ∷ rs) e a = cc (rw e at a.0)

-- a version below the beginning of all ranges is in none of them, and their events do not change an answer
abbrev Above : List Range → Parts → Type 0
Above rs v = ((before : Bool) → said (events_of rs) v before ≡ before) × (in_ranges rs v ≡ false)

above_step : (lo : Parts) (hi : Option Parts) (rs : List Range) (v : Parts) → is_below v lo ≡ true → is_in_order (Some lo) hi ≡ true
    → ((w : Parts) → hi ≡ Some w → Above rs v) → (hi ≡ None → rs ≡ []) → Above (record { introduced = Some lo; fixed = hi } ∷ rs) v
above_step lo None rs v low o later none =
    let no = below-not_at_most v lo low in
    rw (none refl) (λ before. rw no refl, rw no refl)
above_step lo (Some hi) rs v low o later none =
    let no = below-not_at_most v lo low in
    let not_fixed = below-not_at_most v hi (below-at_most v lo hi low o) in
    let ih = later hi refl in
    (λ before. rw (no, not_fixed) (ih.0 before), rw no ih.1)

above : (rs : List Range) (b v : Parts) → is_below v b ≡ true → Begins b rs → AllInOrder rs → AllFollowed rs → Above rs v
above [] b v low s o f = (λ before. refl, refl)
above (r ∷ rs) b v low s o f = begun r.introduced r.fixed s o.0
    (λ w e below. above rs w v below (next r rs w e f) o.1 (rest r rs f)) (λ e. last r rs e f)
  where
    begun : (lo hi : Option Parts) → is_followed (Some b) lo ≡ true → is_in_order lo hi ≡ true
        → ((w : Parts) → hi ≡ Some w → is_below v w ≡ true → Above rs v) → (hi ≡ None → rs ≡ [])
        → Above (record { introduced = lo; fixed = hi } ∷ rs) v
    begun None hi s o later none = cc s
    begun (Some lo) hi s o later none =
        let low_here = below-at_most v b lo low s in
        above_step lo hi rs v low_here o (λ w e. later w e (below-at_most v lo w low_here (rw e at o))) none

-- ---- all versions

begins-self : (v : Parts) → is_at_most v v ≡ true
begins-self v = true_from_ne_false (is_at_most v v) (λ other. cc (other, below-weak v v (not_at_most v v other)))

begun-from : (lo : Option Parts) (v : Parts) → is_at_most (beginning lo) v ≡ true → is_from lo v ≡ true
begun-from None v h = refl
begun-from (Some l) v h = h

from_step : (lo hi : Option Parts) (rs : List Range) (v : Parts) → is_at_most (beginning lo) v ≡ true → (hi ≡ None → rs ≡ [])
    → ((w : Parts) → hi ≡ Some w → is_below v w ≡ true → Above rs v) → said (events_of rs) v false ≡ in_ranges rs v
    → said (events_of (record { introduced = lo; fixed = hi } ∷ rs)) v false ≡ in_ranges (record { introduced = lo; fixed = hi } ∷ rs) v
from_step lo None rs v begun none later ih = rw (none refl, begun, begun-from lo v begun) refl
from_step lo (Some h) rs v begun none later ih = elim (cases_Bool (is_at_most h v)) [
  | inl over ↦ rw (begun, over, begun-from lo v begun, at_most-not_below h v over) ih
  | inr not_yet ↦
      let low = not_at_most h v not_yet in
      rw (begun, not_yet, begun-from lo v begun, low) ((later h refl low).0 true)
]

step : (lo hi : Option Parts) (rs : List Range) (v : Parts) → is_at_most (least_of 0 0 0) v ≡ true → (hi ≡ None → rs ≡ [])
    → ((l : Parts) → lo ≡ Some l → is_below v l ≡ true → Above (record { introduced = lo; fixed = hi } ∷ rs) v)
    → ((w : Parts) → hi ≡ Some w → is_below v w ≡ true → Above rs v) → said (events_of rs) v false ≡ in_ranges rs v
    → said (events_of (record { introduced = lo; fixed = hi } ∷ rs)) v false ≡ in_ranges (record { introduced = lo; fixed = hi } ∷ rs) v
step None hi rs v least none first later ih = from_step None hi rs v least none later ih
step (Some l) hi rs v least none first later ih = elim (cases_Bool (is_at_most l v)) [
  | inl begun ↦ from_step (Some l) hi rs v begun none later ih
  | inr not_yet ↦
      let both = first l refl (not_at_most l v not_yet) in
      both.0 false ∙ sym both.1
]

says : (rs : List Range) (v : Parts) → is_at_most (least_of 0 0 0) v ≡ true → AllInOrder rs → AllFollowed rs → said (events_of rs) v false ≡ in_ranges rs v
says [] v least o f = refl
says (r ∷ rs) v least o f =
    step r.introduced r.fixed rs v least (λ e. last r rs e f)
    (λ l e low. above (r ∷ rs) l v low (rw e (begins-self l)) o f)
    (λ w e low. above rs w v low (next r rs w e f) o.1 (rest r rs f))
    (says rs v least o.1 (rest r rs f))

-- the events of rising ranges call a valid version affected exactly if a range contains it
pub events-say : (rs : List Range) (v : Parts) → IsVersion v → list_all (λ r. is_in_order r.introduced r.fixed) rs ≡ true
    → AllAdjacentBelow (λ r s. is_followed r.fixed s.introduced ≡ true) rs (length rs) → events_say (events_of rs) v ≡ in_ranges rs v
events-say rs v valid o f = say-said (events_of rs) v ∙ says rs v (least-at_most v valid) (in_order-to rs o) (followed-to rs f)
