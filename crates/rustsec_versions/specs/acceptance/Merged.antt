-- Merged intervals: overlapping intervals of a list, and those that a chain of overlaps joins with them, taken as one.
-- It carries meaning: public contracts cite it.
use Rattle.std.specs.Prelude.{◌≡◌, Bool, Contains, true, false, List}
use Rattle.rustsec_versions.specs.interval.Apart.{are_apart}
use Rattle.rustsec_versions.specs.interval.Interval.{Interval, end_le, overlap, start_le}
use Rattle.rustsec_versions.specs.order.Precedence.{precedence}

-- a chain of intervals of a list joins two: each overlaps the next one; an interval is joined with itself
pub data IsJoined (is : List Interval) : Interval → Interval → Type 0 where
  itself : (i : Interval) → IsJoined is i i
  onward : (i j : Interval) {k : Interval} → Contains is j → overlap precedence i j ≡ true → IsJoined is j k → IsJoined is i k

-- the merged interval of an interval has the least start and the greatest end of the intervals joined with it
pub record IsMergedOf (is : List Interval) (i m : Interval) : Type 0 where
  pub start : (j : Interval) × (Contains is j × (IsJoined is i j × (j.start ≡ m.start)))
  pub least : (j : Interval) → Contains is j → IsJoined is i j → start_le m.start j.start ≡ true
  pub end : (j : Interval) × (Contains is j × (IsJoined is i j × (j.end ≡ m.end)))
  pub greatest : (j : Interval) → Contains is j → IsJoined is i j → end_le j.end m.end ≡ true

-- the merged intervals of a list: those of its intervals, and no others. No two of them overlap, so none occurs
-- twice, since an interval whose start is at or below its end overlaps itself
pub record AreMerged (is ms : List Interval) : Type 0 where
  pub each : (i : Interval) → Contains is i → (m : Interval) × (Contains ms m × IsMergedOf is i m)
  pub only : (m : Interval) → Contains ms m → (i : Interval) × (Contains is i × IsMergedOf is i m)
  pub apart : are_apart precedence ms ≡ true
