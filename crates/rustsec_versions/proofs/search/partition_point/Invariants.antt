use Rattle.std.proofs.Common.{◌+◌, ◌-◌, ◌≡◌, ◌<◌, ◌≤◌, ◌^◌, ℕ, false, get_or, length, true}
use Rattle.std.specs.Prelude.{min}
use Rattle.rustsec_versions.specs.interval.Interval.{Interval, has_bound, is_after}
use Rattle.rustsec_versions.proofs.lemmas.search.Halving.{AtLeastHalvings, WithinDigits}
use Rattle.rustsec_versions.proofs.search.partition_point.Given as goal

-- each gap before `low` begins before the version, and none from `high` on. The first gap, which may have no start, is
-- asked only in the last turn
abbrev pub invariant-loop-low : goal.invariant-loop-low
invariant-loop-low l = record {
  low : l.low ≤ l.high;
  high : l.high ≤ length l.complement;
  before : (k : ℕ) (d : Interval) → k < l.low → is_after (get_or l.complement k d).start l.version ≡ true;
  after : (k : ℕ) (d : Interval) → l.high ≤ k → k < length l.complement → is_after (get_or l.complement k d).start l.version ≡ false;
  count : WithinDigits (length l.complement) l.fn.steps (l.high - l.low) l.steps;
  least : AtLeastHalvings (length l.complement) l.fn.steps ((l.high - l.low) + min l.low 1) l.steps;
  begins : (e : Interval) → has_bound (get_or l.complement 0 e).start ≡ true
      → AtLeastHalvings (length l.complement + 1) l.fn.steps ((l.high - l.low) + 1) l.steps;
  rises : l.fn.steps ≤ l.steps;
  stays : l.fn.steps ≡ 2 ^ 64 - 1 → l.steps ≡ 2 ^ 64 - 1;
}

abbrev pub decreases-loop-low : goal.decreases-loop-low
decreases-loop-low l = l.high - l.low
