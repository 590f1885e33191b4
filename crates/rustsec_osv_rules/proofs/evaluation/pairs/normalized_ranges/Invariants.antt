use Rattle.std.proofs.Common.{◌≡◌, map, take}
use Rattle.rustsec_osv_rules.specs.evaluation.Pairs.{normalized_range}
use Rattle.rustsec_osv_rules.proofs.evaluation.pairs.normalized_ranges.Given as goal

-- the ranges so far
abbrev pub invariant-loop-range : goal.invariant-loop-range
invariant-loop-range l = l.all ≡ map normalized_range (take l.range-index l.ranges)
