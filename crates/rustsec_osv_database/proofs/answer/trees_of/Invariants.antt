use Rattle.std.proofs.Common.{◌≡◌, map, take}
use Rattle.serde_json.specs.View.{view}
use Rattle.rustsec_osv.specs.DocumentCodec.{document_tree}
use Rattle.rustsec_osv_database.proofs.answer.trees_of.Given as goal

-- the trees of the documents so far
abbrev pub invariant-loop-document : goal.invariant-loop-document
invariant-loop-document l = map view l.trees.items ≡ map document_tree (take l.document-index l.documents)
