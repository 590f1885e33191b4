use Rattle.std.proofs.Common.{List, map, option_map, take}
use Rattle.semver.specs.Identifiers.{parts_of}
use Rattle.rustsec_versions.specs.acceptance.Lists.{Lists}
use Rattle.rustsec_versions.specs.order.Precedence.{IsVersion}
use Rattle.rustsec_check.specs.LeastFree.{AreRangesOfAll}
use Rattle.rustsec_check.specs.Updates.{AreIdsOf, IsMover}
use Rattle.rustsec_check.proofs.counted.movers.Given as goal

-- those of the advisories so far
abbrev pub invariant-loop-advisory : goal.invariant-loop-advisory
invariant-loop-advisory l = (all : List Lists) → AreRangesOfAll all l.answer.in_force.now → IsVersion (parts_of l.answer.version.now)
    → AreIdsOf (IsMover l.ids all (parts_of l.answer.version.now) (option_map parts_of l.answer.least_free.now)) (map (λ a. a.now) (take l.advisory-index l.advisories))
    (map (λ i. i.now) l.moving.items)
