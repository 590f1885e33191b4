use Rattle.std.proofs.Common.{◌≡◌, map, take}
use Rattle.serde_json.specs.View.{view}
use Rattle.rustsec_explain_output.specs.ExplainTree.{pair_tree}
use Rattle.rustsec_explain_output.proofs.tree.list_tree.Given as goal

-- the trees of the pairs so far
abbrev pub invariant-loop-pair : goal.invariant-loop-pair
invariant-loop-pair l = map view l.trees.items ≡ map (pair_tree l.rules) (take l.pair-index l.pairs)
