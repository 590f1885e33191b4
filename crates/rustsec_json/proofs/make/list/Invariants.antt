use Rattle.std.proofs.Common.{◌≡◌, map, take}
use Rattle.serde_json.specs.View.{view}
use Rattle.rustsec_json.proofs.make.list.Given as goal

abbrev pub invariant-loop-value : goal.invariant-loop-value
invariant-loop-value g l = map view l.trees.items ≡ map g.T.ToTree.tree (take l.value-index l.values)
