use Rattle.std.proofs.Common.{List, option_map, take}
use Rattle.semver.specs.Identifiers.{parts_of}
use Rattle.rustsec_versions.specs.acceptance.Lists.{Lists}
use Rattle.rustsec_versions.specs.order.Precedence.{IsVersion}
use Rattle.rustsec_check.specs.LeastFree.{AreRangesOfAll}
use Rattle.rustsec_check.specs.Moving.{NoneMoves}
use Rattle.rustsec_check.proofs.moving.Answer.is_moved_by.Given as goal

-- none of the ranges so far moves the answer
abbrev pub invariant-loop-range : goal.invariant-loop-range
invariant-loop-range l = (all : List Lists) → AreRangesOfAll all l.self.in_force.now → IsVersion (parts_of l.self.version.now)
    → NoneMoves all (parts_of l.self.version.now) (option_map parts_of l.self.least_free.now) (take l.range-index l.range-items)
