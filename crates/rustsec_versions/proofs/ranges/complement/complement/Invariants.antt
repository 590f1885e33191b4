use Rattle.std.proofs.Common.{◌≡◌, ◌++◌, drop}
use Rattle.rustsec_versions.specs.ranges.Between.{complement_between}
use Rattle.rustsec_versions.specs.interval.Interval.{unbounded}
use Rattle.rustsec_versions.specs.acceptance.Sweep.{spans}
use Rattle.rustsec_versions.specs.Views.{endpoint_of}
use Rattle.rustsec_versions.proofs.ranges.complement.complement.Given as goal

-- the gaps so far, and those of the intervals that are left
abbrev pub invariant-loop-interval : goal.invariant-loop-interval
invariant-loop-interval l =
    l.complement.items ++ complement_between (endpoint_of l.from) (spans (drop l.interval-index l.intervals))
    ≡ complement_between unbounded (spans l.intervals)
