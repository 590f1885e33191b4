-- Going up from fix to fix: what lies below is affected, and the fixes that are left grow fewer.
use Rattle.std.proofs.Common.{◌≡◌, ◌∙◌, ◌⊎◌, ◌+◌, ◌<◌, ◌≤◌, ◌&&◌, ℕ, Bool, true, false, cond, List, [], ◌∷◌, Option, Some, None, ap, arith, inl, inr, refl, sym}
use Rattle.std.specs.List.{find, list_any}
use Rattle.std.proofs.lemmas.Bool.{cases_Bool}
use Rattle.semver.specs.Parse.{Parts}
use Rattle.rustsec_versions.specs.acceptance.Lists.{Lists}
use Rattle.rustsec_versions.specs.order.Precedence.{IsVersion, is_at_most, is_below}
use Rattle.rustsec_versions.specs.ranges.Ranges.{Range, in_range, in_ranges, is_from, is_until}
use Rattle.rustsec_versions.proofs.lemmas.order.PrecedenceLaws.{at_most-below, at_most-not_below, at_most-trans, below-weak, not_below}
use Rattle.rustsec_check.specs.LeastFree.{AreRangesOfAll, HaveValidFixes, IsLeastFree, IsValidFix, holding, is_affected}

pub at_most-refl : (v : Parts) → is_at_most v v ≡ true
at_most-refl v = elim (cases_Bool (is_below v v)) [
  | inl below ↦ below-weak v v below
  | inr other ↦ not_below v v other
]

pub both-first : (a b : Bool) → (a && b) ≡ true → a ≡ true
both-first true b h = refl
both-first false b h = cc h

pub both-second : (a b : Bool) → (a && b) ≡ true → b ≡ true
both-second true b h = h
both-second false b h = cc h

pub both : (a b : Bool) → a ≡ true → b ≡ true → (a && b) ≡ true
both true b h k = k
both false b h k = cc h

-- ---- the range that holds a version

any-head : (p : Range → Bool) (r : Range) (rs : List Range) → p r ≡ true → list_any p (r ∷ rs) ≡ true
any-head p r rs h = rw h refl

any-tail : (p : Range → Bool) (r : Range) (rs : List Range) → list_any p rs ≡ true → list_any p (r ∷ rs) ≡ true
any-tail p r rs h = elim (cases_Bool (p r)) [
  | inl here ↦ rw here refl
  | inr not_here ↦ rw (not_here, h) refl
]

module _ (p : Range → Bool) where
  pub found-holds : (rs : List Range) (r : Range) → find p rs ≡ Some r → p r ≡ true
  found-holds [] r h = cc h
  found-holds (s ∷ rs) r h = elim (cases_Bool (p s)) [
    | inl here ↦
        let e : Some s ≡ Some r = rw here at h in
        let same : s ≡ r = cc e in
        rw (← same) here
    | inr other ↦ found-holds rs r (rw other at h)
  ]

  pub found-any : (rs : List Range) (r : Range) (q : Range → Bool) → find p rs ≡ Some r → q r ≡ true → list_any q rs ≡ true
  found-any [] r q h k = cc h
  found-any (s ∷ rs) r q h k = elim (cases_Bool (p s)) [
    | inl here ↦
        let e : Some s ≡ Some r = rw here at h in
        let same : s ≡ r = cc e in
        any-head q s rs (rw same k)
    | inr other ↦ any-tail q s rs (found-any rs r q (rw other at h) k)
  ]

  pub found-valid : (rs : List Range) (r : Range) → HaveValidFixes rs → find p rs ≡ Some r → IsValidFix r.fixed
  found-valid [] r v h = cc h
  found-valid (s ∷ rs) r v h = elim (cases_Bool (p s)) [
    | inl here ↦
        let e : Some s ≡ Some r = rw here at h in
        let same : s ≡ r = cc e in
        rw (← same) v.0
    | inr other ↦ found-valid rs r v.1 (rw other at h)
  ]

  pub none-any : (rs : List Range) → find p rs ≡ None → list_any p rs ≡ false
  none-any [] h = refl
  none-any (s ∷ rs) h = elim (cases_Bool (p s)) [
    | inl here ↦ cc (rw here at h)
    | inr other ↦ rw (other, none-any rs (rw other at h)) refl
  ]

-- ---- the way up

-- from a version up to here, each valid version is held
pub record IsUpTo (rs : List Range) (v found : Parts) : Type 0 where
  pub valid : IsVersion found
  pub above : is_at_most v found ≡ true
  pub held : (u : Parts) → IsVersion u → is_at_most v u ≡ true → is_below u found ≡ true → in_ranges rs u ≡ true
  -- this is the first version, or a fix without build metadata, and then the first version is held
  pub way : (found ≡ v) ⊎ ((found.4 ≡ []) × (in_ranges rs v ≡ true))

pub start : (rs : List Range) (v found : Parts) → IsVersion v → found ≡ v → IsUpTo rs v found
start rs v found valid is = rw is (record {
  valid = valid;
  above = at_most-refl v;
  held = λ u w low high. cc (sym (at_most-not_below v u low) ∙ high);
  way = inl refl;
})

-- a version at or above one that a range holds is not below the range
pub from-up : (introduced : Option Parts) (found u : Parts) → is_from introduced found ≡ true → is_at_most found u ≡ true → is_from introduced u ≡ true
from-up None found u h k = refl
from-up (Some introduced) found u h k = at_most-trans introduced found u h k

-- a version from here up to the fix of a range that holds this one is held too
held-up : (rs : List Range) (r : Range) (found u : Parts) → holding rs found ≡ Some r → is_at_most found u ≡ true → is_until r.fixed u ≡ true
    → in_ranges rs u ≡ true
held-up rs r found u h low high =
    let inside = found-holds (λ s. in_range s found) rs r h in
    found-any (λ s. in_range s found) rs r (λ s. in_range s u) h (both (is_from r.introduced u) (is_until r.fixed u) (from-up r.introduced found u (both-first (is_from r.introduced found) (is_until r.fixed found) inside) low) high)

any-way : (rs : List Range) (v : Parts) (r : Range) (found u : Parts) → IsUpTo rs v found → holding rs found ≡ Some r → IsVersion u
    → is_at_most v u ≡ true → is_until r.fixed u ≡ true → in_ranges rs u ≡ true
any-way rs v r found u so h valid low high = elim (cases_Bool (is_below u found)) [
  | inl below ↦ so.held u valid low below
  | inr other ↦ held-up rs r found u h (not_below u found other) high
]

-- the first version is held if a range holds this one
first-held : (rs : List Range) (v : Parts) (r : Range) (found : Parts) → IsUpTo rs v found → holding rs found ≡ Some r → in_ranges rs v ≡ true
first-held rs v r found so h = elim so.way [
  | inl same ↦ rw (← same) (found-any (λ s. in_range s found) rs r (λ s. in_range s found) h (found-holds (λ s. in_range s found) rs r h))
  | inr fix ↦ fix.1
]

-- one step up, to the fix of a range that holds this version
pub up : (rs : List Range) (v : Parts) (r : Range) (found fixed : Parts) → HaveValidFixes rs → IsUpTo rs v found → holding rs found ≡ Some r
    → r.fixed ≡ Some fixed → IsUpTo rs v fixed
up rs v r found fixed valid so h is =
    let inside = both-second (is_from r.introduced found) (is_until r.fixed found) (found-holds (λ s. in_range s found) rs r h) in
    let below : is_below found fixed ≡ true = rw is at inside in
    let good : IsVersion fixed × (fixed.4 ≡ []) = rw is at (found-valid (λ s. in_range s found) rs r valid h) in
    record {
      valid = good.0;
      above = below-weak v fixed (at_most-below v found fixed so.above below);
      held = λ u w low high. any-way rs v r found u so h w low (rw is high);
      way = inr (good.1, first-held rs v r found so h);
    }

-- ---- what the way ends with

-- the first version itself, if it is not affected
ends-at : (all : List Lists) (rs : List Range) (v found : Parts) → AreRangesOfAll all rs → IsUpTo rs v found → IsVersion v → is_affected all v ≡ false → found ≡ v
ends-at all rs v found of so valid is_free = elim so.way [
  | inl same ↦ same
  | inr fix ↦ cc (sym is_free ∙ (sym (of.agree v valid) ∙ fix.1))
]

-- else a fix, which has no build metadata
ends-plain : (all : List Lists) (rs : List Range) (v found : Parts) → AreRangesOfAll all rs → IsUpTo rs v found → IsVersion v → holding rs found ≡ None
    → is_affected all v ≡ true → found.4 ≡ []
ends-plain all rs v found of so valid h held = elim so.way [
  | inl same ↦
      let none : in_ranges rs found ≡ false = none-any (λ s. in_range s found) rs h in
      let here : in_ranges rs v ≡ false = rw (← same) none in
      cc (sym held ∙ (sym (of.agree v valid) ∙ here))
  | inr fix ↦ fix.0
]

pub free : (all : List Lists) (rs : List Range) (v found : Parts) (answer : Option Parts) → AreRangesOfAll all rs → IsUpTo rs v found → IsVersion v
    → holding rs found ≡ None → answer ≡ Some found → IsLeastFree all v answer
free all rs v found answer of so first h is = rw is (record {
  some = λ w e.
      let same : found ≡ w = cc e in
      rw (← same) (so.valid, so.above, sym (of.agree found so.valid) ∙ none-any (λ s. in_range s found) rs h);
  least = λ w e u valid low not_affected.
      let same : found ≡ w = cc e in
      rw (← same) (elim (cases_Bool (is_below u found)) [
        | inl below ↦ cc (sym not_affected ∙ (sym (of.agree u valid) ∙ so.held u valid low below))
        | inr other ↦ not_below u found other
      ]);
  none = λ e. cc e;
  itself = λ not_affected. ap Some (ends-at all rs v found of so first not_affected);
  plain = λ w e held.
      let same : found ≡ w = cc e in
      rw (← same) (ends-plain all rs v found of so first h held);
})

pub never : (all : List Lists) (rs : List Range) (v found : Parts) (r : Range) (answer : Option Parts) → AreRangesOfAll all rs → IsUpTo rs v found → IsVersion v
    → holding rs found ≡ Some r → r.fixed ≡ None → answer ≡ None → IsLeastFree all v answer
never all rs v found r answer of so first h is none = rw none (record {
  some = λ w e. cc e;
  least = λ w e. cc e;
  none = λ e u valid low. sym (of.agree u valid) ∙ any-way rs v r found u so h valid low (rw is refl);
  itself = λ not_affected. cc (sym not_affected ∙ (sym (of.agree v first) ∙ first-held rs v r found so h));
  plain = λ w e. cc e;
})

-- ---- the fixes that are left

-- how many ranges end above a version
abbrev pub left : List Range → Parts → ℕ
left [] v = 0
left (r ∷ rs) v = cond (is_until r.fixed v) 1 0 + left rs v

pub till-down : (fixed : Option Parts) (v w : Parts) → is_at_most v w ≡ true → is_until fixed w ≡ true → is_until fixed v ≡ true
till-down None v w low h = refl
till-down (Some fixed) v w low h = at_most-below v w fixed low h

fewer-head : (a b : Bool) → (b ≡ true → a ≡ true) → cond b 1 0 ≤ cond a 1 0
fewer-head true b h = elim (cases_Bool b) [
  | inl above ↦ rw above (omega arith)
  | inr other ↦ rw other (omega arith)
]
fewer-head false true h = cc (h refl)
fewer-head false false h = omega arith

not-more : (rs : List Range) (v w : Parts) → is_at_most v w ≡ true → left rs w ≤ left rs v
not-more [] v w low = omega arith
not-more (r ∷ rs) v w low =
    let head = fewer-head (is_until r.fixed v) (is_until r.fixed w) (till-down r.fixed v w low) in
    let rest = not-more rs v w low in
    omega (arith, head, rest)

fewer-here : (a b : Bool) (m n : ℕ) → a ≡ true → b ≡ false → m ≤ n → cond b 1 0 + m < cond a 1 0 + n
fewer-here a b m n h k l = rw (h, k) (omega (arith, l))

-- fewer are left above the fix of a range that holds a version
pub fewer : (rs : List Range) (p : Range → Bool) (r : Range) (v w : Parts) → find p rs ≡ Some r → is_until r.fixed v ≡ true → is_until r.fixed w ≡ false
    → is_at_most v w ≡ true → left rs w < left rs v
fewer [] p r v w h ends ended low = cc h
fewer (s ∷ rs) p r v w h ends ended low = elim (cases_Bool (p s)) [
  | inl here ↦
      let e : Some s ≡ Some r = rw here at h in
      let same : s ≡ r = cc e in
      fewer-here (is_until s.fixed v) (is_until s.fixed w) _ _ (rw same ends) (rw same ended) (not-more rs v w low)
  | inr other ↦
      let head = fewer-head (is_until s.fixed v) (is_until s.fixed w) (till-down s.fixed v w low) in
      let rest = fewer rs p r v w (rw other at h) ends ended low in
      omega (arith, head, rest)
]

pub fewer-left : (rs : List Range) (r : Range) (found fixed : Parts) → holding rs found ≡ Some r → r.fixed ≡ Some fixed → left rs fixed < left rs found
fewer-left rs r found fixed h is =
    let inside = both-second (is_from r.introduced found) (is_until r.fixed found) (found-holds (λ s. in_range s found) rs r h) in
    let below : is_below found fixed ≡ true = rw is at inside in
    fewer rs (λ s. in_range s found) r found fixed h inside (rw is (at_most-not_below fixed fixed (at_most-refl fixed))) (below-weak found fixed below)
