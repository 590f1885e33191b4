use Rattle.std.proofs.Common.{◌≡◌, map, take}
use Rattle.serde_json.specs.View.{view}
use Rattle.rustsec_explain_output.specs.ExplainTree.{reason_tree}
use Rattle.rustsec_explain_output.proofs.tree.reasons_tree.Given as goal

-- the trees of the reasons so far
abbrev pub invariant-loop-reason : goal.invariant-loop-reason
invariant-loop-reason l = map view l.trees.items ≡ map (reason_tree l.rules l.pair) (take l.reason-index l.pair.reasons)
