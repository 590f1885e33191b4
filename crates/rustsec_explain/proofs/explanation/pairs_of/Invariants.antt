use Rattle.std.proofs.Common.{◌≡◌, flat_map, map, take}
use Rattle.rustsec_explain.specs.Explained.{explained_by}
use Rattle.rustsec_explain.proofs.explanation.pairs_of.Given as goal

-- the pairs of the advisories so far
abbrev pub invariant-loop-advisory : goal.invariant-loop-advisory
invariant-loop-advisory l =
    l.pairs ≡ flat_map (explained_by l.settings l.packages) (map (λ a. a.now) (take l.advisory-index l.advisories))
