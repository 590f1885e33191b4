use Rattle.std.proofs.Common.{◌≡◌, ◌++◌, map, take}
use Rattle.rustsec_explain.specs.Explained.{explained_pairs}
use Rattle.rustsec_explain.proofs.explanation.add_all_pairs.Given as goal

-- after the old pairs are those of the packages so far
abbrev pub invariant-loop-package : goal.invariant-loop-package
invariant-loop-package l =
    l.pairs ≡ l.fn.pairs ++ explained_pairs l.settings (map (λ a. a.now) l.advisories) (map (λ p. p.now) (take l.package-index l.packages))
