-- The gaps between intervals in the order of their starts: from each interval's end to the next one's start. A gap
-- has bounds, as an interval has, and may be empty. It only helps proofs: `Lists` defines the affected versions for
-- public contracts, and `Ranges` the ranges.
use Rattle.std.specs.Prelude.{◌≡◌, true, false, List, [], ◌∷◌, length, map}
use Rattle.std.specs.List.{All, AllAdjacentBelow, list_any}
use Rattle.semver.specs.Parse.{Parts}
use Rattle.rustsec_versions.specs.ranges.Complement.{HasValidBounds, cut}
use Rattle.rustsec_versions.specs.interval.Interval.{Endpoint, Interval, exclusive, has_bound, holds, inclusive, is_after, is_before, unbounded}
use Rattle.rustsec_versions.specs.acceptance.Lists.{Lists, affected}
use Rattle.rustsec_versions.specs.ranges.AcceptedRanges.{AreRangesOf}

-- the bound on the other side of the same cut: exclusive becomes inclusive, and inclusive exclusive
abbrev pub opposite_bound : Endpoint → Endpoint
opposite_bound unbounded = unbounded
opposite_bound (exclusive v) = inclusive v
opposite_bound (inclusive v) = exclusive v

-- the gap before an interval that has a start
abbrev pub gap_to : Endpoint → Endpoint → List Interval → List Interval
gap_to from unbounded rest = rest
gap_to from (exclusive v) rest = record { start = from; end = inclusive v } ∷ rest
gap_to from (inclusive v) rest = record { start = from; end = exclusive v } ∷ rest

-- nothing comes after an interval without end
abbrev pub complement_after : Endpoint → List Interval → List Interval
complement_after unbounded rest = []
complement_after (exclusive v) rest = rest
complement_after (inclusive v) rest = rest

-- the gaps from a bound on
unfoldable pub complement_between : Endpoint → List Interval → List Interval
complement_between from [] = record { start = from; end = unbounded } ∷ []
complement_between from (i ∷ is) = gap_to from i.start (complement_after i.end (complement_between (opposite_bound i.end) is))

-- a version after the start of a gap is after the start and the end of the gap before it
pub record AreInTurn (gs : List Interval) : Type 0 where
  pub turn : (v : Parts) → AllAdjacentBelow (λ g h. is_after h.start v ≡ true → (is_after g.start v ≡ true) × (is_before g.end v ≡ false)) gs (length gs)

-- each gap but the first has a start
abbrev pub EachLaterBegins : List Interval → Type 0
EachLaterBegins gs = AllAdjacentBelow (λ g h. has_bound h.start ≡ true) gs (length gs)

-- the gaps that accepted lists keep: they hold the versions that the lists leave affected, valid or not, and the
-- successors of their bounds give the ranges
pub record IsComplementOf (ls : Lists) (gs : List Interval) : Type 0 where
  pub ranges : AreRangesOf ls (map cut gs)
  pub decide : (v : Parts) → list_any (λ g. holds g v) gs ≡ affected ls v
  pub valid : All HasValidBounds gs
  pub in_turn : AreInTurn gs
