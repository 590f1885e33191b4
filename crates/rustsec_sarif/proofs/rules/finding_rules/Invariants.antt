use Rattle.std.proofs.Common.{◌≡◌, map, take}
use Rattle.serde_json.specs.View.{view}
use Rattle.rustsec_sarif.specs.SarifTree.{rule_tree}
use Rattle.rustsec_sarif.proofs.rules.finding_rules.Given as goal

abbrev pub invariant-loop-rule : goal.invariant-loop-rule
invariant-loop-rule l = map view l.trees.items ≡ map rule_tree (map (λ f. f.now) (take l.rule-index l.rules))
