-- Ranges of affected versions, `[introduced, fixed)`, each side possibly missing: the meaning of one range, the
-- meaning of a list of ranges, and the list of ranges between intervals that do not overlap. It carries meaning:
-- public contracts cite it.
use Rattle.std.specs.Prelude.{◌≡◌, ◌&&◌, ◌+◌, ◌≤◌, ◌↔◌, Bool, true, false, List, [], ◌∷◌, ◌++◌, Option, Some, None, filter_map, is_none, is_some, length}
use Rattle.std.specs.List.{AllAdjacentBelow, list_all, list_any}
use Rattle.std.specs.List.Sorted.{IsPermutation, IsSorted}
use Rattle.std.specs.Ordering.{is_le, is_lt}
use Rattle.semver.specs.Parse.{Parts}
use Rattle.rustsec_versions.specs.interval.Interval.{Endpoint, Interval, exclusive, has_bound, inclusive, unbounded}
use Rattle.rustsec_versions.specs.acceptance.Lists.{Lists}
use Rattle.rustsec_versions.specs.order.Precedence.{is_at_most, is_below, precedence, version_order}
use Rattle.rustsec_versions.specs.order.Successor.{successor}

pub record Range : Type 0 where
  pub introduced : Option Parts
  pub fixed : Option Parts

-- ---- meaning

-- whether a version is at or above where a range begins; a missing side always passes
abbrev pub is_from : Option Parts → Parts → Bool
is_from None v = true
is_from (Some introduced) v = is_at_most introduced v

-- whether a version is below where a range ends
abbrev pub is_until : Option Parts → Parts → Bool
is_until None v = true
is_until (Some fixed) v = is_below v fixed

-- a version is in a range from its introduction on, and below its fix
abbrev pub in_range : Range → Parts → Bool
in_range r v = is_from r.introduced v && is_until r.fixed v

-- a version is in a list of ranges if it is in one of the ranges
abbrev pub in_ranges : List Range → Parts → Bool
in_ranges rs v = list_any (λ r. in_range r v) rs

-- the same tests in the order of `Version`: precedence, then build metadata
abbrev pub affects_from : Option Parts → Parts → Bool
affects_from None v = true
affects_from (Some introduced) v = is_le (version_order introduced v)

abbrev pub affects_till : Option Parts → Parts → Bool
affects_till None v = true
affects_till (Some fixed) v = is_lt (version_order v fixed)

abbrev pub affects : Range → Parts → Bool
affects r v = affects_from r.introduced v && affects_till r.fixed v

-- ---- cuts

-- where an interval with a start begins: at its inclusive start, or at the version least above its exclusive one
abbrev pub lower_cut : Endpoint → Option Parts
lower_cut unbounded = None
lower_cut (inclusive v) = Some v
lower_cut (exclusive v) = successor v

-- where an interval with an end ends: at its exclusive end, or at the version least above its inclusive one
abbrev pub upper_cut : Endpoint → Option Parts
upper_cut unbounded = None
upper_cut (exclusive v) = Some v
upper_cut (inclusive v) = successor v

-- the lower cuts of all intervals that have a start, and the upper cuts of all that have an end
abbrev pub lower_cuts : List Interval → List Parts
lower_cuts is = filter_map (λ i. lower_cut i.start) is

abbrev pub upper_cuts : List Interval → List Parts
upper_cuts is = filter_map (λ i. upper_cut i.end) is

-- an interval with a start has a lower cut, and one with an end an upper cut
pub record HasCuts (i : Interval) : Type 0 where
  pub lower : is_some (lower_cut i.start) ≡ has_bound i.start
  pub upper : is_some (upper_cut i.end) ≡ has_bound i.end

-- ---- the list of ranges

-- whether a range begins at or below its end
abbrev pub is_in_order : Option Parts → Option Parts → Bool
is_in_order None fixed = true
is_in_order (Some introduced) None = true
is_in_order (Some introduced) (Some fixed) = is_at_most introduced fixed

-- whether a range ends, and the next one begins there or above
abbrev pub is_followed : Option Parts → Option Parts → Bool
is_followed None introduced = false
is_followed (Some fixed) None = false
is_followed (Some fixed) (Some introduced) = is_at_most fixed introduced

-- the interval without bounds, which holds every version
abbrev pub whole : Interval
whole = record { start = unbounded; end = unbounded }

-- the ranges between intervals
pub record AreRanges (is : List Interval) (rs : List Range) : Type 0 where
  -- the fixes are the lower cuts, each as often as it occurs, in rising order
  pub fixed : IsPermutation (lower_cuts is) (filter_map (λ r. r.fixed) rs)
  pub fixed_rise : IsSorted precedence (filter_map (λ r. r.fixed) rs)
  -- the introductions are the upper cuts, each as often as it occurs, in rising order
  pub introduced : IsPermutation (upper_cuts is) (filter_map (λ r. r.introduced) rs)
  pub introduced_rise : IsSorted precedence (filter_map (λ r. r.introduced) rs)
  -- each introduction is at most its fix; each range but the last has a fix, each but the first an
  -- introduction, and a fix is at most the next introduction
  pub in_order : list_all (λ r. is_in_order r.introduced r.fixed) rs ≡ true
  pub followed : AllAdjacentBelow (λ r s. is_followed r.fixed s.introduced ≡ true) rs (length rs)
  -- the first range lacks its introduction exactly if no interval lacks a start, and the last lacks its fix exactly
  -- if none lacks an end
  pub first : (r : Range) (rest : List Range) → rs ≡ r ∷ rest → is_none r.introduced ≡ list_all (λ i. has_bound i.start) is
  pub last : (r : Range) (front : List Range) → rs ≡ front ++ r ∷ [] → is_none r.fixed ≡ list_all (λ i. has_bound i.end) is
  -- at most one more range than intervals, and no range exactly if the one interval has no bounds
  pub bound : length rs ≤ length is + 1
  pub empty : (rs ≡ []) ↔ (is ≡ whole ∷ [])

-- ---- the order of requirements

-- two pairs of lists with the same patched and the same unaffected requirements, each as often
abbrev pub SameInEachList : Lists → Lists → Type 0
SameInEachList ls ms = IsPermutation ls.patched ms.patched × IsPermutation ls.unaffected ms.unaffected

-- two pairs of lists with the same requirements, each as often, whichever lists they are in
abbrev pub SameRequirements : Lists → Lists → Type 0
SameRequirements ls ms = IsPermutation (ls.patched ++ ls.unaffected) (ms.patched ++ ms.unaffected)
