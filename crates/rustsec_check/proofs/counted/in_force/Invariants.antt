use Rattle.std.proofs.Common.{◌≡◌, map, take}
use Rattle.rustsec_check.specs.Updates.{in_force}
use Rattle.rustsec_check.proofs.counted.in_force.Given as goal

-- those of the advisories so far
abbrev pub invariant-loop-advisory : goal.invariant-loop-advisory
invariant-loop-advisory l = map (λ a. a.now) l.kept.items ≡ in_force l.ids (map (λ a. a.now) (take l.advisory-index l.advisories))
