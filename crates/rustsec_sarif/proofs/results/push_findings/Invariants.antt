use Rattle.std.proofs.Common.{◌≡◌, ◌++◌, map, take}
use Rattle.serde_json.specs.View.{view}
use Rattle.rustsec_sarif.specs.SarifTree.{finding_said, result_tree}
use Rattle.rustsec_sarif.proofs.results.push_findings.Given as goal

abbrev pub invariant-loop-finding : goal.invariant-loop-finding
invariant-loop-finding l =
    map view l.trees.items ≡ map view l.fn.trees.items
    ++ map (result_tree l.file) (map (finding_said (map (λ f. f.now) l.rules)) (take l.finding-index l.findings))
