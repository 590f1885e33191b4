use Rattle.std.proofs.Common.{◌≡◌, [], map, take}
use Rattle.rustsec_sarif.specs.SarifTree.{firsts}
use Rattle.rustsec_sarif.proofs.firsts.firsts.Given as goal

abbrev pub invariant-loop-finding : goal.invariant-loop-finding
invariant-loop-finding l = map (λ f. f.now) l.first.items ≡ firsts [] (take l.finding-index l.findings)
