-- Intervals of versions: a start and an end, each missing, exclusive or inclusive at a version.
-- It carries meaning: public contracts cite it.
use Rattle.std.specs.Prelude.{Bool, true, false, ◌&&◌}
use Rattle.std.specs.Ordering.{is_le, is_lt}
use Rattle.std.specs.declared.cmp.Ordering.{Ordering}
use Rattle.semver.specs.Parse.{Parts}
use Rattle.rustsec_versions.specs.order.Precedence.{is_at_most, is_below}

-- a start or an end
pub data Endpoint : Type 0 where
  unbounded : Endpoint
  exclusive : Parts → Endpoint
  inclusive : Parts → Endpoint

pub record Interval : Type 0 where
  pub start : Endpoint
  pub end : Endpoint

-- whether a bound is there
abbrev pub has_bound : Endpoint → Bool
has_bound unbounded = false
has_bound (exclusive v) = true
has_bound (inclusive v) = true

-- whether a version satisfies a start
abbrev pub is_after : Endpoint → Parts → Bool
is_after unbounded v = true
is_after (exclusive s) v = is_below s v
is_after (inclusive s) v = is_at_most s v

-- whether a version satisfies an end
abbrev pub is_before : Endpoint → Parts → Bool
is_before unbounded v = true
is_before (exclusive e) v = is_below v e
is_before (inclusive e) v = is_at_most v e

-- an interval holds a version that satisfies its start and its end
abbrev pub holds : Interval → Parts → Bool
holds i v = is_after i.start v && is_before i.end v

-- whether a start is at or below an end, in an order of versions: an unbounded side counts, a lower version counts,
-- and equal versions count only if both bounds are inclusive
abbrev pub reaches : (Parts → Parts → Ordering) → Endpoint → Endpoint → Bool
reaches order unbounded e = true
reaches order (exclusive s) unbounded = true
reaches order (inclusive s) unbounded = true
reaches order (inclusive s) (inclusive e) = is_le (order s e)
reaches order (inclusive s) (exclusive e) = is_lt (order s e)
reaches order (exclusive s) (inclusive e) = is_lt (order s e)
reaches order (exclusive s) (exclusive e) = is_lt (order s e)

-- two intervals overlap if each one's start is at or below the other's end. This is a test on the bounds, not on the
-- versions between them
abbrev pub overlap : (Parts → Parts → Ordering) → Interval → Interval → Bool
overlap order i j = reaches order i.start j.end && reaches order j.start i.end

-- whether a start is equal to the other or before it: at one version an inclusive start is before an exclusive one
abbrev pub start_le : Endpoint → Endpoint → Bool
start_le unbounded t = true
start_le (exclusive s) unbounded = false
start_le (exclusive s) (exclusive t) = is_at_most s t
start_le (exclusive s) (inclusive t) = is_below s t
start_le (inclusive s) unbounded = false
start_le (inclusive s) (exclusive t) = is_at_most s t
start_le (inclusive s) (inclusive t) = is_at_most s t

-- whether an end is equal to the other or before it: at one version an exclusive end is before an inclusive one
abbrev pub end_le : Endpoint → Endpoint → Bool
end_le d unbounded = true
end_le unbounded (exclusive e) = false
end_le unbounded (inclusive e) = false
end_le (exclusive d) (exclusive e) = is_at_most d e
end_le (exclusive d) (inclusive e) = is_at_most d e
end_le (inclusive d) (exclusive e) = is_below d e
end_le (inclusive d) (inclusive e) = is_at_most d e
