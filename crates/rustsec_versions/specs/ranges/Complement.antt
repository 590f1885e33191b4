-- The walk that makes the ranges: over intervals in the order of their starts, from each interval's end to the next
-- one's start. It only helps proofs: public contracts define the ranges by `AreRanges` of `Ranges`.
use Rattle.std.specs.Prelude.{List, [], ◌∷◌, Option, Some, None}
use Rattle.semver.specs.Parse.{Parts}
use Rattle.rustsec_versions.specs.interval.Interval.{Endpoint, Interval, exclusive, inclusive, unbounded}
use Rattle.rustsec_versions.specs.order.Precedence.{IsVersion}
use Rattle.rustsec_versions.specs.ranges.Ranges.{Range, lower_cut, upper_cut}

-- ---- the gaps

-- an interval by its cuts
abbrev pub cut : Interval → Range
cut i = record { introduced = lower_cut i.start; fixed = upper_cut i.end }

-- the gap before an interval that has a start
abbrev pub gap_before : Option Parts → Option Parts → List Range → List Range
gap_before from None rest = rest
gap_before from (Some start) rest = record { introduced = from; fixed = Some start } ∷ rest

-- nothing comes after an interval without end
abbrev pub complement_beyond : Option Parts → List Range → List Range
complement_beyond None rest = []
complement_beyond (Some end) rest = rest

-- the gaps from a version on, or from the first one
unfoldable pub complement_from : Option Parts → List Range → List Range
complement_from from [] = record { introduced = from; fixed = None } ∷ []
complement_from from (c ∷ cs) = gap_before from c.introduced (complement_beyond c.fixed (complement_from c.fixed cs))

-- ---- bounds that are valid versions

abbrev pub IsValidBound : Endpoint → Type 0
IsValidBound unbounded = Unit {0}
IsValidBound (exclusive v) = IsVersion v
IsValidBound (inclusive v) = IsVersion v

pub record HasValidBounds (i : Interval) : Type 0 where
  pub start : IsValidBound i.start
  pub end : IsValidBound i.end
