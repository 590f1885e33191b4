-- What accepted lists give: the ranges that their merged intervals leave, and what these hold.
use Rattle.std.proofs.Common.{◌≡◌, ◌<◌, ◌+◌, ◌++◌, ◌↔◌, ℕ, zero, suc, true, false, List, [], ◌∷◌, Option, Some, None, Ok, Err, length, get_or, map, refl, sym, ap, ◌∙◌, arith, inl, inr, IsPermutation}
use Rattle.std.specs.Prelude.{Contains, filter_map, is_some, not}
use Rattle.std.specs.Borrow.{Bor}
use Rattle.std.specs.List.{cons_option, list_any}
use Rattle.std.specs.List.Sorted.{IsSortedByKey}
use Rattle.std.proofs.lemmas.Bool.{cases_Bool}
use Rattle.std.proofs.lemmas.List.Elements.{Contains-append_right}
use Rattle.std.proofs.lemmas.List.Sorted.{Contains-permutation, IsPermutation-append, IsPermutation-map, IsPermutation-refl, IsPermutation-sym, list_any-IsPermutation}
use Rattle.semver.specs.Parse.{Held, Parts}
use Rattle.rustsec_versions.specs.ranges.Between.{IsComplementOf, complement_between}
use Rattle.rustsec_versions.specs.interval.StartOrder.{start_order}
use Rattle.rustsec_versions.specs.ranges.Complement.{cut, complement_from}
use Rattle.rustsec_versions.specs.interval.Apart.{are_apart}
use Rattle.rustsec_versions.specs.interval.Interval.{Endpoint, Interval, exclusive, has_bound, holds, inclusive, overlap, unbounded}
use Rattle.rustsec_versions.specs.acceptance.Lists.{Lists, accepted, accepted_apart, affected, all_admissible, intervals}
use Rattle.rustsec_versions.specs.acceptance.FirstClash.{IsFirstClash}
use Rattle.rustsec_versions.specs.acceptance.Merged.{AreMerged, IsJoined}
use Rattle.rustsec_versions.specs.order.Precedence.{IsVersion, precedence}
use Rattle.rustsec_versions.specs.ranges.Ranges.{AreRanges, HasCuts, Range, SameInEachList, SameRequirements, affects, in_ranges, lower_cut, upper_cut, whole}
use Rattle.rustsec_versions.specs.requirement.Requirement.{interval_of, is_admissible, end_cut_exists, start_cut_exists}
use Rattle.rustsec_versions.specs.ranges.AcceptedRanges.{AreMergedRanges, AreRangesOf, HasUnboundedInterval}
use Rattle.rustsec_versions.specs.acceptance.Sweep.{TaggedInterval, all_swept, are_clear, tag, tagged, all_tagged, spans}
use Rattle.rustsec_versions.proofs.lemmas.ranges.AreRanges.{AreRanges-IsPermutation, admissible_shuffled, complement-AreRanges, sound_shuffled}
use Rattle.rustsec_versions.proofs.lemmas.ranges.Adjacent.{AllAdmissible, StartsRise}
use Rattle.rustsec_versions.proofs.lemmas.acceptance.Clashes.{AllSound, accepted-all, accepted-clear, accepted-refused, apart-intervals, intervals-sound, spans-all_tagged, tagged-apart}
use Rattle.rustsec_versions.proofs.lemmas.acceptance.FirstClash.{all_swept-clash}
use Rattle.rustsec_versions.proofs.lemmas.acceptance.Clear.{clash-unclear, clear-alone, clear_shuffled}
use Rattle.rustsec_versions.proofs.lemmas.ranges.Complement.{AllFit, IsRow, fit-held, fit-valid, from-nothing, complement-cut, complement-fit, complement-hold, complement-in_turn, row}
use Rattle.rustsec_versions.proofs.lemmas.lists.Contained.{contains-from_map, contains-here, contains-map}
use Rattle.rustsec_versions.proofs.lemmas.acceptance.Contraction.{apart-merged}
use Rattle.rustsec_versions.proofs.lemmas.order.LeastAbove.{successor-there}
use Rattle.rustsec_versions.proofs.lemmas.acceptance.MergedFit.{joined-alone, merged-fit, merged-whole}
use Rattle.rustsec_versions.proofs.lemmas.acceptance.OneMerge.{merged-one, merged-permutation, merged-ranges-one}
use Rattle.rustsec_versions.proofs.lemmas.ranges.OwnOrder.{all-affect, cuts-plain, complement-plain}
use Rattle.rustsec_versions.proofs.lemmas.ranges.RangeEnds.{list_all-IsPermutation}
use Rattle.rustsec_versions.proofs.lemmas.lists.Shuffled.{IsPermutation-filter_map, shuffled}
use Rattle.rustsec_versions.proofs.lemmas.requirement.Sound.{admissible-end, admissible-start, interval_of-admissible}
use Rattle.rustsec_versions.proofs.lemmas.ranges.Unique.{AreRanges-unique}
use Rattle.rustsec_versions.proofs.lemmas.acceptance.Swept.{IsSwept, all_swept-some}

-- ---- the intervals of requirements are admissible

admissible_option : (o : Option Interval) (is : List Interval) → ((i : Interval) → o ≡ Some i → is_admissible i ≡ true) → AllAdmissible is → AllAdmissible (cons_option o is)
admissible_option None is h a = a
admissible_option (Some i) is h a = (h i refl, a)

pub intervals-admissible : (rs : List (List Held)) → AllAdmissible (filter_map interval_of rs)
intervals-admissible [] = tt
intervals-admissible (r ∷ rs) = admissible_option (interval_of r) (filter_map interval_of rs) (interval_of-admissible r) (intervals-admissible rs)

-- ---- the order of the requirements does not matter

pub same-intervals : (ls ms : Lists) → SameRequirements ls ms → IsPermutation (intervals ls) (intervals ms)
same-intervals ls ms p = IsPermutation-filter_map interval_of (ls.patched ++ ls.unaffected) (ms.patched ++ ms.unaffected) p

-- the order within each list changes no acceptance
pub same_accepted : (ls ms : Lists) → SameInEachList ls ms → accepted ms ≡ accepted ls
same_accepted ls ms (p, q) =
    let both = IsPermutation-append _ _ _ _ p q in
    let all = list_all-IsPermutation (λ r. is_some (interval_of r)) (ls.patched ++ ls.unaffected) (ms.patched ++ ms.unaffected) both in
    let same = IsPermutation-append _ _ _ _ (IsPermutation-map (tag true) _ _ (IsPermutation-filter_map interval_of ls.patched ms.patched p))
    (IsPermutation-map (tag false) _ _ (IsPermutation-filter_map interval_of ls.unaffected ms.unaffected q)) in
    elim (cases_Bool (all_admissible (ls.patched ++ ls.unaffected))) [
      | inl fine ↦
          accepted-clear ms (sym all ∙ fine) ∙ sym (clear_shuffled (shuffled (all_tagged ls) (all_tagged ms) same)) ∙ sym (accepted-clear ls fine)
      | inr other ↦ accepted-refused ms (sym all ∙ other) ∙ sym (accepted-refused ls other)
    ]

-- ---- what the walk over merged intervals gives

starts-rise : (xs : List (Bor TaggedInterval)) → IsSortedByKey (λ x. x.now.interval.start) start_order xs → StartsRise (spans (map (λ x. x.now) xs))
starts-rise [] h = tt
starts-rise (x ∷ []) h = tt
starts-rise (x ∷ y ∷ xs) h = (
  h 0 x (omega arith) (omega arith),
  starts-rise (y ∷ xs) (λ k d low high. let e : suc k + 1 ≡ suc (k + 1) = omega arith in rw e at (h (suc k) d (omega arith) (omega arith))),
)

-- two of a list clash
pub first-unclear : {cs : List TaggedInterval} {c x : TaggedInterval} → IsFirstClash cs c x → are_clear cs ≡ false
first-unclear {c = c} {x = x} f = rw f.parts (clash-unclear f.before f.after c x f.earlier f.clash)

-- no two intervals of requirements overlap if, in any order, no two clash with each one as that of an unaffected one
pub apart-sorted : (rs : List (List Held)) (xs : List (Bor TaggedInterval)) → IsPermutation (tagged false rs) (map (λ x. x.now) xs)
    → are_apart precedence (filter_map interval_of rs) ≡ are_clear (map (λ x. x.now) xs)
apart-sorted rs xs same = sym (tagged-apart (filter_map interval_of rs)) ∙ clear_shuffled (shuffled _ _ same)

-- the intervals of lists in the order of their starts
module _ (ls : Lists) (all : all_admissible (ls.patched ++ ls.unaffected) ≡ true) (xs : List (Bor TaggedInterval))
    (same : IsPermutation (all_tagged ls) (map (λ x. x.now) xs)) (sorted : IsSortedByKey (λ x. x.now.interval.start) start_order xs) where
  spans-same : IsPermutation (intervals ls) (spans (map (λ x. x.now) xs))
  spans-same = rw (← spans-all_tagged ls) (IsPermutation-map (λ c. c.interval) _ _ same)

  spans-sound : AllSound (spans (map (λ x. x.now) xs))
  spans-sound = sound_shuffled (shuffled _ _ spans-same) (intervals-sound (ls.patched ++ ls.unaffected))

  spans-admissible : AllAdmissible (spans (map (λ x. x.now) xs))
  spans-admissible = admissible_shuffled (shuffled _ _ spans-same) (intervals-admissible (ls.patched ++ ls.unaffected))

  same-clear : accepted ls ≡ are_clear (map (λ x. x.now) xs)
  same-clear = accepted-clear ls all ∙ clear_shuffled (shuffled _ _ same)

  -- the sweep finds the first two that clash
  pub sweep-clash : (c x : TaggedInterval) → all_swept (map (λ x. x.now) xs) ≡ Err (c, x) → IsFirstClash (map (λ x. x.now) xs) c x
  sweep-clash c x = all_swept-clash _ c x spans-sound spans-admissible (starts-rise xs sorted)

  pub clash-refused : {c x : TaggedInterval} → IsFirstClash (map (λ x. x.now) xs) c x → accepted ls ≡ false
  clash-refused {c} {x} f = same-clear ∙ first-unclear f

  module _ (ms : List TaggedInterval) (is : all_swept (map (λ x. x.now) xs) ≡ Ok ms) where
    walk-swept : IsSwept (map (λ x. x.now) xs) ms
    walk-swept = all_swept-some _ ms spans-sound spans-admissible (starts-rise xs sorted) is

    walk-merged : AreMerged (intervals ls) (spans ms)
    walk-merged = merged-permutation (spans (map (λ x. x.now) xs)) (intervals ls) (spans ms) (IsPermutation-sym (intervals ls) _ spans-same) walk-swept.merged

    walk-row : IsRow (spans ms)
    walk-row = row _ walk-swept.fit.sound walk-swept.fit.admissible walk-swept.rise walk-swept.fit.apart

    walk-all_fit : AllFit (complement_between unbounded (spans ms))
    walk-all_fit = complement-fit unbounded _ tt refl walk-swept.fit.sound walk-swept.fit.admissible

    walk-decide : (v : Parts) → list_any (λ g. holds g v) (complement_between unbounded (spans ms)) ≡ affected ls v
    unfolding affected
    walk-decide v =
        complement-hold unbounded _ v (from-nothing (spans ms)) walk-row
        ∙ ap not (walk-swept.held v ∙ sym (list_any-IsPermutation (λ i. holds i v) (intervals ls) _ spans-same))

    walk-cut : map cut (complement_between unbounded (spans ms)) ≡ complement_from None (map cut (spans ms))
    walk-cut = complement-cut unbounded _ walk-swept.fit.admissible

    walk-agree : (w : Parts) → IsVersion w → in_ranges (map cut (complement_between unbounded (spans ms))) w ≡ affected ls w
    walk-agree w valid = fit-held _ w walk-all_fit valid ∙ walk-decide w

    walk-affects : (w : Parts) → IsVersion w → list_any (λ r. affects r w) (map cut (complement_between unbounded (spans ms))) ≡ affected ls w
    walk-affects w valid =
        let plain = complement-plain None (map cut (spans ms)) tt (cuts-plain (spans ms) walk-swept.fit.sound) in
        all-affect _ w (rw walk-cut plain) ∙ walk-agree w valid

    pub walk-IsComplementOf : IsComplementOf ls (complement_between unbounded (spans ms))
    walk-IsComplementOf = record {
      ranges = record {
        ranges = record {
          accepts = same-clear ∙ walk-swept.clear;
          merged = spans ms;
          are_merged = walk-merged;
          ranges = rw walk-cut (complement-AreRanges (spans ms) (spans ms) (IsPermutation-refl (spans ms)) walk-swept.fit walk-swept.rise);
        };
        agree = walk-agree;
        agree_affects = walk-affects;
      };
      decide = walk-decide;
      valid = fit-valid _ walk-all_fit;
      in_turn = complement-in_turn _ walk-row;
    }

    pub walk-clear : are_clear (map (λ x. x.now) xs) ≡ true
    walk-clear = walk-swept.clear

-- ---- what the ranges of accepted lists give

module _ (ls : Lists) where
  own-sound : AllSound (intervals ls)
  own-sound = intervals-sound (ls.patched ++ ls.unaffected)

  own-admissible : AllAdmissible (intervals ls)
  own-admissible = intervals-admissible (ls.patched ++ ls.unaffected)

  -- pairs of lists with the same requirements have one list of ranges
  pub ranges-one : (ms : Lists) (rs us : List Range) → SameRequirements ls ms → AreMergedRanges ls rs → AreMergedRanges ms us → us ≡ rs
  ranges-one ms rs us p r u =
      merged-ranges-one (intervals ls) (intervals ms) r.merged u.merged rs us own-sound own-admissible (same-intervals ls ms p) r.are_merged u.are_merged
      r.ranges u.ranges

  -- the interval of an unaffected requirement overlaps no other one
  unaffected-alone : accepted ls ≡ true → (i j : Interval) → Contains (filter_map interval_of ls.unaffected) i → Contains (intervals ls) j
      → overlap precedence i j ≡ true → j ≡ i
  unaffected-alone accepts i j c d near =
      let clear : are_clear (all_tagged ls) ≡ true = sym (accepted-clear ls (accepted-all ls accepts)) ∙ accepts in
      let there = Contains-append_right (tagged true ls.patched) (tagged false ls.unaffected) (tag false i)
      (contains-map (tag false) (filter_map interval_of ls.unaffected) i c) in
      let (x, (at, is)) = contains-from_map (λ m. m.interval) (all_tagged ls) j (rw (spans-all_tagged ls) d) in
      sym is ∙ clear-alone (all_tagged ls) clear (tag false i) x there at refl (rw is near)

  -- so no chain joins it with another one
  pub kept-alone : accepted ls ≡ true → (i j : Interval) → Contains (filter_map interval_of ls.unaffected) i → IsJoined (intervals ls) i j → j ≡ i
  kept-alone accepts i j c h = joined-alone i (λ k at near. unaffected-alone accepts i k c at near) h refl

  module _ (rs : List Range) (kept : AreRangesOf ls rs) where
    pub kept-empty : (rs ≡ []) ↔ HasUnboundedInterval ls
    kept-empty =
        let r = kept.ranges in (
          λ e. (r.merged, (r.are_merged, (let is = (r.ranges.empty).0 e in rw is (contains-here whole [])))),
          λ (ms, (m, c)).
              let fit = merged-fit (intervals ls) r.merged own-sound own-admissible r.are_merged in
              let one = merged-one (intervals ls) (intervals ls) r.merged ms own-sound own-admissible (IsPermutation-refl (intervals ls)) r.are_merged m in
              (r.ranges.empty).1 (merged-whole r.merged fit.apart fit.admissible (Contains-permutation ms r.merged whole (IsPermutation-sym r.merged ms one) c)),
        )

    pub kept-order : (ms : Lists) (us : List Range) → SameRequirements ls ms → AreMergedRanges ms us → us ≡ rs
    kept-order ms us p r = ranges-one ms rs us p kept.ranges r

    -- any two lists of ranges of the same requirements have the same length
    pub kept-length : (us : List Range) → AreMergedRanges ls us → length us ≡ length rs
    kept-length us r = ap length (kept-order ls us (IsPermutation-refl (ls.patched ++ ls.unaffected)) r)

    -- intervals that do not overlap are their own merged intervals
    pub kept-apart : accepted_apart ls ≡ true → (us : List Range) → AreRanges (intervals ls) us ↔ (us ≡ rs)
    kept-apart h us =
        let r = kept.ranges in
        let itself = apart-merged (intervals ls) own-admissible (apart-intervals ls h) in
        let own = AreRanges-IsPermutation r.merged (intervals ls) rs
        (merged-one (intervals ls) (intervals ls) r.merged (intervals ls) own-sound own-admissible (IsPermutation-refl (intervals ls)) r.are_merged itself) r.ranges in (
          λ u. AreRanges-unique (intervals ls) (intervals ls) rs us (IsPermutation-refl (intervals ls)) own-sound own u,
          λ e. rw e own,
        )

-- ---- cuts

start-has_cut : (s : Endpoint) → start_cut_exists s ≡ true → is_some (lower_cut s) ≡ has_bound s
start-has_cut unbounded h = refl
start-has_cut (inclusive v) h = refl
start-has_cut (exclusive v) h = let t = successor-there v h in rw t.1 refl

end-has_cut : (e : Endpoint) → end_cut_exists e ≡ true → is_some (upper_cut e) ≡ has_bound e
end-has_cut unbounded h = refl
end-has_cut (exclusive v) h = refl
end-has_cut (inclusive v) h = let t = successor-there v h in rw t.1 refl

admissible-cuts : (is : List Interval) → AllAdmissible is → (k : ℕ) (d : Interval) → k < length is → HasCuts (get_or is k d)
admissible-cuts [] a k d h = absurd (omega arith)
admissible-cuts (i ∷ is) a zero d h = record {
  lower = start-has_cut i.start (admissible-start i a.0);
  upper = end-has_cut i.end (admissible-end i a.0);
}
admissible-cuts (i ∷ is) a (suc k) d h = admissible-cuts is a.1 k d (omega arith)

-- each merged interval has the cuts that its bounds want
pub all-cuts : (ls : Lists) (ms : List Interval) → AreMerged (intervals ls) ms → (k : ℕ) (d : Interval) → k < length ms → HasCuts (get_or ms k d)
all-cuts ls ms m k d h = admissible-cuts ms (merged-fit (intervals ls) ms (own-sound ls) (own-admissible ls) m).admissible k d h

-- where there is a gap, no merged interval is unbounded on both sides
pub some_gap : (ls : Lists) (gs : List Interval) → IsComplementOf ls gs → 0 < length gs → ¬ HasUnboundedInterval ls
some_gap ls [] kept some whole = absurd (omega (arith, some))
some_gap ls (g ∷ gs) kept some whole = absurd (cc ((kept-empty ls (map cut (g ∷ gs)) kept.ranges).1 whole))
