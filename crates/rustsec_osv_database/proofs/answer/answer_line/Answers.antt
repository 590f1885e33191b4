use Rattle.std.proofs.Common.{◌≡◌, ◌∙◌, ◌∷◌, [], ap, false}
use Rattle.std.specs.Prelude.{codes}
use Rattle.std.proofs.lemmas.Result.{IfOk-weaker}
use Rattle.serde_json.specs.Data.{Data}
use Rattle.serde_json.specs.View.{view}
use Rattle.serde_json.specs.Written.{has_float}
use Rattle.rustsec_report.specs.Trees.{object_of}
use Rattle.rustsec_json.specs.Lines.{tree_line}
use Rattle.rustsec_osv_database.proofs.Documents.{answer-plain}
use Rattle.rustsec_osv_database.proofs.answer.answer_line.Goals as goal

pub returns : goal.returns
returns c =
    let is = c.in_ok-tree.ensures ∙ ap (λ (t : Data). object_of ((codes "vulns", t) ∷ [])) c.in_ok-trees.ensures in
    let plain : has_float (view c.in_ok-tree.tree) ≡ false = ap has_float is ∙ answer-plain c.args.documents.now in
    IfOk-weaker c.tree_line.result _ _ (λ t h. h plain ∙ ap tree_line is) c.tree_line.ensures
