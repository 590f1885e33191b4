use Rattle.std.proofs.Common.{◌≡◌, map, take}
use Rattle.rustsec_check.specs.Updates.{lists_of}
use Rattle.rustsec_check.proofs.counted.lists_of.Given as goal

-- those of the advisories so far
abbrev pub invariant-loop-advisory : goal.invariant-loop-advisory
invariant-loop-advisory l = map (λ v. v.now) l.lists.items ≡ lists_of (map (λ a. a.now) (take l.advisory-index l.advisories))
