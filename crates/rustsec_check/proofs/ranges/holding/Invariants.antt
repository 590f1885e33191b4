use Rattle.std.proofs.Common.{◌≡◌, drop}
use Rattle.semver.specs.Identifiers.{parts_of}
use Rattle.rustsec_check.specs.LeastFree.{holding}
use Rattle.rustsec_check.proofs.ranges.holding.Given as goal

-- the ranges that are left decide
abbrev pub invariant-loop-range : goal.invariant-loop-range
invariant-loop-range l = holding l.ranges (parts_of l.version) ≡ holding (drop l.range-index l.ranges) (parts_of l.version)
