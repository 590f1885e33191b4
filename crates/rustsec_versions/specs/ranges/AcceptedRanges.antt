-- The ranges of accepted lists, and how many comparisons a search among them may make.
-- It carries meaning: public contracts cite it.
use Rattle.std.specs.Prelude.{◌≡◌, ◌<◌, ◌≤◌, ◌^◌, ℕ, Contains, true, List}
use Rattle.std.specs.List.{list_any}
use Rattle.semver.specs.Parse.{Parts}
use Rattle.rustsec_versions.specs.interval.Interval.{Interval}
use Rattle.rustsec_versions.specs.acceptance.Merged.{AreMerged}
use Rattle.rustsec_versions.specs.acceptance.Lists.{Lists, accepted, affected, intervals}
use Rattle.rustsec_versions.specs.order.Precedence.{IsVersion}
use Rattle.rustsec_versions.specs.ranges.Ranges.{AreRanges, Range, affects, in_ranges, whole}

-- the ranges between the merged intervals of accepted lists. Both lists are merged together: only patched requirements
-- overlap there, and only one another, so a chain joins patched ones alone, and an unaffected one has its own interval
pub record AreMergedRanges (ls : Lists) (rs : List Range) : Type 0 where
  pub accepts : accepted ls ≡ true
  pub merged : List Interval
  pub are_merged : AreMerged (intervals ls) merged
  pub ranges : AreRanges merged rs

-- one merged interval is unbounded on both sides
abbrev pub HasUnboundedInterval : Lists → Type 0
HasUnboundedInterval ls = (ms : List Interval) × (AreMerged (intervals ls) ms × Contains ms whole)

-- the ranges of accepted lists, which have the valid versions that the lists leave affected, in precedence and in
-- the order of `Version`
pub record AreRangesOf (ls : Lists) (rs : List Range) : Type 0 where
  pub ranges : AreMergedRanges ls rs
  pub agree : (v : Parts) → IsVersion v → in_ranges rs v ≡ affected ls v
  pub agree_affects : (v : Parts) → IsVersion v → list_any (λ r. affects r v) rs ≡ affected ls v

-- the number of binary digits of a number: the fewest with which it can be written; 0 has none
pub record HasBinaryDigits (n digits : ℕ) : Type 0 where
  pub enough : n < 2 ^ digits
  pub fewest : (d : ℕ) → n < 2 ^ d → digits ≤ d
