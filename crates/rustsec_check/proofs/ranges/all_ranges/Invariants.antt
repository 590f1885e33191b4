use Rattle.std.proofs.Common.{map, take}
use Rattle.rustsec_check.specs.LeastFree.{AreRangesOfAll}
use Rattle.rustsec_check.proofs.ranges.all_ranges.Given as goal

-- the ranges of the advisories so far
abbrev pub invariant-loop-versions : goal.invariant-loop-versions
invariant-loop-versions l = AreRangesOfAll (map (λ v. v.now) (take l.versions-index l.lists)) l.all.items
