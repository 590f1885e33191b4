use Rattle.std.proofs.Common.{take}
use Rattle.semver.specs.Identifiers.{parts_of}
use Rattle.rustsec_osv_rules.specs.evaluation.Document.{IsRangeOfAnswer}
use Rattle.rustsec_osv_rules.proofs.evaluation.Sorted.{AreSoFar}
use Rattle.rustsec_osv_rules.proofs.evaluation.affected.ranges_say.Given as goal

-- the answers of the ranges so far
abbrev pub invariant-loop-range : goal.invariant-loop-range
invariant-loop-range l = AreSoFar (IsRangeOfAnswer (parts_of l.version)) (take l.range-index l.ranges) l.affected
