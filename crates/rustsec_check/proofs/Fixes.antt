-- The fixes and the introductions of an advisory's ranges are valid versions.
use Rattle.std.proofs.Common.{◌≡◌, ◌∙◌, ◌⊎◌, ◌<◌, ◌++◌, ◌||◌, ℕ, zero, suc, Bool, Contains, List, [], ◌∷◌, Option, Some, None, ap, arith, get_or, inl, inr, length, refl, subst, sym}
use Rattle.std.specs.List.{filter_map, list_any}
use Rattle.std.proofs.lemmas.Bool.{cases_Bool}
use Rattle.std.proofs.lemmas.List.Folds.{list_any-append}
use Rattle.std.proofs.lemmas.List.Sorted.{Contains-permutation, IsPermutation-sym}
use Rattle.semver.specs.Parse.{Parts}
use Rattle.rustsec_versions.specs.ranges.AcceptedRanges.{AreMergedRanges}
use Rattle.rustsec_versions.specs.interval.Interval.{Endpoint, Interval, exclusive, inclusive, unbounded}
use Rattle.rustsec_versions.specs.acceptance.Lists.{Lists, affected, intervals}
use Rattle.rustsec_versions.specs.order.Precedence.{IsVersion}
use Rattle.rustsec_versions.specs.ranges.Ranges.{Range, in_ranges, in_range, lower_cut, lower_cuts, upper_cut, upper_cuts}
use Rattle.rustsec_versions.specs.requirement.Requirement.{interval_of}
use Rattle.rustsec_versions.proofs.lemmas.order.LeastAbove.{successor-valid}
use Rattle.rustsec_versions.proofs.lemmas.requirement.Sound.{IsSoundEnd, interval_of-sound}
use Rattle.rustsec_check.specs.LeastFree.{AreRangesOfAll, HaveValidFixes, HaveValidStarts, IsValidFix, IsValidStart, is_affected}

-- to be one of the elements, by recursion
abbrev Among : {X : Type 0} → List X → X → Type 0
Among [] y = ⊥
Among (x ∷ xs) y = (x ≡ y) ⊎ Among xs y

module _ {X : Type 0} where
  from-place : (xs : List X) (k : ℕ) (y : X) → k < length xs → get_or xs k y ≡ y → Among xs y
  from-place [] k y l is = absurd (omega (arith, l))
  from-place (x ∷ xs) zero y l is = inl is
  from-place (x ∷ xs) (suc k) y l is = inr (from-place xs k y (omega (arith, l)) is)

  among : (xs : List X) (y : X) → Contains xs y → Among xs y
  among xs y h = from-place xs h.0 y h.1 h.2

  contained : (xs : List X) (y : X) → Among xs y → Contains xs y
  contained [] y h = absurd h
  contained (x ∷ xs) y (inl is) = (0, omega arith, is)
  contained (x ∷ xs) y (inr h) = let c = contained xs y h in let l = c.1 in (suc c.0, omega (arith, l), c.2)

-- ---- the elements of a list that `filter_map` gives

module _ {X Y : Type 0} (f : X → Option Y) where
  source-head : (x : X) (xs : List X) (o : Option Y) (y : Y) → f x ≡ o → (Among (filter_map f xs) y → (z : X) × Among xs z × (f z ≡ Some y))
      → Among (filter_map f (x ∷ xs)) y → (z : X) × Among (x ∷ xs) z × (f z ≡ Some y)
  source-head x xs None y e rest h = let s = rest (rw e at h) in (s.0, inr s.1, s.2)
  source-head x xs (Some z) y e rest h =
      let either : (z ≡ y) ⊎ Among (filter_map f xs) y = rw e at h in
      elim either [
        | inl is ↦ (x, inl refl, e ∙ ap Some is)
        | inr later ↦ let s = rest later in (s.0, inr s.1, s.2)
      ]

  source : (xs : List X) (y : Y) → Among (filter_map f xs) y → (z : X) × Among xs z × (f z ≡ Some y)
  source [] y h = absurd h
  source (x ∷ xs) y h = source-head x xs (f x) y refl (source xs y) h

-- ---- bounds and cuts

abbrev IsPlain : Parts → Type 0
IsPlain v = IsVersion v × (v.4 ≡ [])

cut-valid : (e : Endpoint) (v : Parts) → IsSoundEnd e → lower_cut e ≡ Some v → IsPlain v
cut-valid unbounded v h is = cc is
cut-valid (exclusive w) v h is = successor-valid w v h.version is
cut-valid (inclusive w) v h is =
    let same : w ≡ v = cc is in
    rw (← same) (h.version, h.plain)

-- the start of a merged interval is a bound of a requirement
start-sound : (ls : Lists) (rs : List Range) (m : Interval) → (a : AreMergedRanges ls rs) → Contains a.merged m → IsSoundEnd m.start
start-sound ls rs m a h =
    let (i, (is_one, of)) = a.are_merged.only m h in
    let (j, (is_interval, (joined, same))) = of.start in
    let (cs, there, read) = source interval_of (ls.patched ++ ls.unaffected) j (among (intervals ls) j is_interval) in
    subst IsSoundEnd same (interval_of-sound cs j read).start

alone : (ls : Lists) (v : Parts) → affected ls v ≡ list_any (λ l. affected l v) (ls ∷ [])
alone ls v = elim (cases_Bool (affected ls v)) [
  | inl held ↦ rw held refl
  | inr other ↦ rw other refl
]

fix-valid : (ls : Lists) (rs : List Range) (v : Parts) → AreMergedRanges ls rs → Contains (filter_map (λ r. r.fixed) rs) v → IsPlain v
fix-valid ls rs v a h =
    let cuts = Contains-permutation (filter_map (λ r. r.fixed) rs) (lower_cuts a.merged) v (IsPermutation-sym _ _ a.ranges.fixed) h in
    let (m, there, cut) = source (λ i. lower_cut i.start) a.merged v (among (lower_cuts a.merged) v cuts) in
    cut-valid m.start v (start-sound ls rs m a (contained a.merged m there)) cut

-- ---- introductions

upper-valid : (e : Endpoint) (v : Parts) → IsSoundEnd e → upper_cut e ≡ Some v → IsVersion v
upper-valid unbounded v h is = cc is
upper-valid (inclusive w) v h is = (successor-valid w v h.version is).0
upper-valid (exclusive w) v h is =
    let same : w ≡ v = cc is in
    rw (← same) h.version

-- the end of a merged interval is a bound of a requirement
end-sound : (ls : Lists) (rs : List Range) (m : Interval) → (a : AreMergedRanges ls rs) → Contains a.merged m → IsSoundEnd m.end
end-sound ls rs m a h =
    let (i, (is_one, of)) = a.are_merged.only m h in
    let (j, (is_interval, (joined, same))) = of.end in
    let (cs, there, read) = source interval_of (ls.patched ++ ls.unaffected) j (among (intervals ls) j is_interval) in
    subst IsSoundEnd same (interval_of-sound cs j read).end

start-valid : (ls : Lists) (rs : List Range) (v : Parts) → AreMergedRanges ls rs → Contains (filter_map (λ r. r.introduced) rs) v → IsVersion v
start-valid ls rs v a h =
    let cuts = Contains-permutation (filter_map (λ r. r.introduced) rs) (upper_cuts a.merged) v (IsPermutation-sym _ _ a.ranges.introduced) h in
    let (m, there, cut) = source (λ i. upper_cut i.end) a.merged v (among (upper_cuts a.merged) v cuts) in
    upper-valid m.end v (end-sound ls rs m a (contained a.merged m there)) cut

starts-head : (o : Option Parts) (r : Range) (rs : List Range) → r.introduced ≡ o
    → ((v : Parts) → Among (filter_map (λ s. s.introduced) (r ∷ rs)) v → IsVersion v) → IsValidStart o × ((v : Parts) → Among (filter_map (λ s. s.introduced) rs) v → IsVersion v)
starts-head None r rs is each = (tt, λ v h. each v (rw is h))
starts-head (Some introduced) r rs is each = (each introduced (rw is (inl refl)), λ v h. each v (rw is (inr h)))

starts : (rs : List Range) → ((v : Parts) → Among (filter_map (λ r. r.introduced) rs) v → IsVersion v) → HaveValidStarts rs
starts [] each = tt
starts (r ∷ rs) each = let h = starts-head r.introduced r rs refl each in (h.0, starts rs h.1)

pub valid-starts : (ls : Lists) (rs : List Range) → AreMergedRanges ls rs → HaveValidStarts rs
valid-starts ls rs are = starts rs (λ v k. start-valid ls rs v are (contained (filter_map (λ r. r.introduced) rs) v k))

-- ---- the ranges of one more advisory

fixes-head : (o : Option Parts) (r : Range) (rs : List Range) → r.fixed ≡ o
    → ((v : Parts) → Among (filter_map (λ s. s.fixed) (r ∷ rs)) v → IsPlain v) → IsValidFix o × ((v : Parts) → Among (filter_map (λ s. s.fixed) rs) v → IsPlain v)
fixes-head None r rs is each = (tt, λ v h. each v (rw is h))
fixes-head (Some fixed) r rs is each = (each fixed (rw is (inl refl)), λ v h. each v (rw is (inr h)))

fixes : (rs : List Range) → ((v : Parts) → Among (filter_map (λ r. r.fixed) rs) v → IsPlain v) → HaveValidFixes rs
fixes [] each = tt
fixes (r ∷ rs) each = let h = fixes-head r.fixed r rs refl each in (h.0, fixes rs h.1)

joined : (rs ss : List Range) → HaveValidFixes rs → HaveValidFixes ss → HaveValidFixes (rs ++ ss)
joined [] ss h k = k
joined (r ∷ rs) ss h k = (h.0, joined rs ss h.1 k)

pub one-more : (before : List Lists) (ls : Lists) (old ranges new : List Range) → AreRangesOfAll before old → AreMergedRanges ls ranges
    → ((v : Parts) → IsVersion v → in_ranges ranges v ≡ affected ls v) → new ≡ old ++ ranges → AreRangesOfAll (before ++ ls ∷ []) new
one-more before ls old ranges new h are agree is = rw is (record {
  valid = joined old ranges h.valid (fixes ranges (λ v k. fix-valid ls ranges v are (contained (filter_map (λ r. r.fixed) ranges) v k)));
  agree = λ v w.
      list_any-append (λ r. in_range r v) old ranges
      ∙ (ap (λ (b : Bool). b || in_ranges ranges v) (h.agree v w)
      ∙ (ap (λ (b : Bool). is_affected before v || b) (agree v w ∙ alone ls v)
      ∙ sym (list_any-append (λ l. affected l v) before (ls ∷ []))));
})
