use Rattle.std.proofs.Common.{◌≡◌, ◌++◌, map, take}
use Rattle.rustsec_explain.specs.Explained.{explained}
use Rattle.rustsec_explain.proofs.explanation.add_pairs.Given as goal

-- after the old pairs are those of the advisories so far
abbrev pub invariant-loop-advisory : goal.invariant-loop-advisory
invariant-loop-advisory l =
    l.pairs ≡ l.fn.pairs ++ map (explained l.settings l.«package») (map (λ a. a.now) (take l.advisory-index l.advisories))
