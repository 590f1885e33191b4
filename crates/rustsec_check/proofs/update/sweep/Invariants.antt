use Rattle.semver.specs.Identifiers.{parts_of}
use Rattle.rustsec_versions.specs.order.Precedence.{IsVersion}
use Rattle.rustsec_check.specs.LeastFree.{HaveValidFixes}
use Rattle.rustsec_check.proofs.Sweep.{IsUpTo, left}
use Rattle.rustsec_check.proofs.update.sweep.Given as goal

-- each valid version from the first one up to here is held
abbrev pub invariant-loop-range : goal.invariant-loop-range
invariant-loop-range l = HaveValidFixes l.ranges → IsVersion (parts_of l.version) → IsUpTo l.ranges (parts_of l.version) (parts_of l.found)

abbrev pub decreases-loop-range : goal.decreases-loop-range
decreases-loop-range l = left l.ranges (parts_of l.found)
