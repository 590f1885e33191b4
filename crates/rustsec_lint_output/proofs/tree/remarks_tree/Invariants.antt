use Rattle.std.proofs.Common.{◌≡◌, map, take}
use Rattle.serde_json.specs.View.{view}
use Rattle.rustsec_lint_output.specs.LintTree.{remark_tree}
use Rattle.rustsec_lint_output.proofs.tree.remarks_tree.Given as goal

-- the trees of the remarks so far
abbrev pub invariant-loop-remark : goal.invariant-loop-remark
invariant-loop-remark l = map view l.trees.items ≡ map (remark_tree l.upstream) (take l.remark-index l.remarks)
