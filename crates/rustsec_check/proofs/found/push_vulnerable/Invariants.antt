use Rattle.std.proofs.Common.{◌≡◌, ◌++◌, map, take}
use Rattle.std.specs.List.{filter_map}
use Rattle.rustsec_check.specs.Pairs.{as_unwarned}
use Rattle.rustsec_check.proofs.found.push_vulnerable.Given as goal

-- those of the advisories so far are appended
abbrev pub invariant-loop-advisory : goal.invariant-loop-advisory
invariant-loop-advisory l =
    l.found.items ≡ l.initial.found.items ++ filter_map (as_unwarned l.placed) (map (λ a. a.now) (take l.advisory-index l.advisories))
