use Rattle.std.proofs.Common.{◌≡◌, map, take}
use Rattle.rustsec_registry.specs.Yanked.{seen, yanked_answers}
use Rattle.rustsec_registry.proofs.yanked_status.verdicts.Given as goal

-- the answers so far are those for the packages so far
abbrev pub invariant-loop-package : goal.invariant-loop-package
invariant-loop-package l = map seen l.answers ≡ yanked_answers l.kept (map (λ p. p.now) (take l.package-index l.packages))
