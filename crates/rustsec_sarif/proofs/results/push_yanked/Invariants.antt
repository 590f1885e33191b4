use Rattle.std.proofs.Common.{◌≡◌, ◌++◌, map, take}
use Rattle.serde_json.specs.View.{view}
use Rattle.rustsec_sarif.specs.SarifTree.{result_tree, yanked_said}
use Rattle.rustsec_sarif.proofs.results.push_yanked.Given as goal

abbrev pub invariant-loop-package : goal.invariant-loop-package
invariant-loop-package l =
    map view l.trees.items ≡ map view l.fn.trees.items ++ map (result_tree l.file) (map (yanked_said l.index) (take l.package-index l.yanked))
