use Rattle.std.proofs.Common.{◌≡◌, map, take}
use Rattle.std.specs.List.{filter}
use Rattle.serde_json.specs.View.{view}
use Rattle.rustsec_lint_output.specs.LintTree.{file_tree, is_listed}
use Rattle.rustsec_lint_output.proofs.tree.files_tree.Given as goal

-- the trees of the files so far that are listed
abbrev pub invariant-loop-entry : goal.invariant-loop-entry
invariant-loop-entry l = map view l.trees.items ≡ map (file_tree l.upstream) (filter is_listed (take l.entry-index l.entries))
