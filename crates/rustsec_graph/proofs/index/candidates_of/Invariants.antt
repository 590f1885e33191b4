use Rattle.std.proofs.Common.{◌≡◌, map, take}
use Rattle.rustsec_graph.specs.Candidates.{candidate_of}
use Rattle.rustsec_graph.proofs.index.candidates_of.Given as goal

abbrev pub invariant-loop-package : goal.invariant-loop-package
invariant-loop-package l = l.candidates.items ≡ map (candidate_of l.old) (take l.package-index l.packages)
