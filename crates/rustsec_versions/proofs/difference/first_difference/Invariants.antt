use Rattle.std.proofs.Common.{map, take}
use Rattle.std.specs.List.{All}
use Rattle.semver.specs.Identifiers.{comparator_view}
use Rattle.rustsec_versions.specs.Views.{comparators_of}
use Rattle.rustsec_versions.specs.Matching.{Agree, first_patch}
use Rattle.rustsec_versions.proofs.difference.first_difference.Given as goal

-- the comparators so far agree on their first patches
abbrev pub invariant-loop-comparator : goal.invariant-loop-comparator
invariant-loop-comparator l =
    All (λ c. Agree (comparators_of l.requirement) l.interval (first_patch c)) (map comparator_view (take l.comparator-index l.comparator-items))
