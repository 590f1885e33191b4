use Rattle.std.proofs.Common.{◌≡◌, take, Some}
use Rattle.serde_json.specs.View.{items_view}
use Rattle.rustsec_values.specs.Reading.{read_all}
use Rattle.rustsec_json.specs.Fields.{list_of}
use Rattle.rustsec_json.proofs.read.list.Given as goal

abbrev pub invariant-loop-tree : goal.invariant-loop-tree
invariant-loop-tree g l = read_all g.T.FromTree.reads (list_of (items_view (take l.tree-index l.trees.items))) ≡ Some l.read
