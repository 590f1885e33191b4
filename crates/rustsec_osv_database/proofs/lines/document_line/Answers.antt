use Rattle.std.proofs.Common.{◌≡◌, ◌∙◌, ap, false}
use Rattle.std.proofs.lemmas.Result.{IfOk-weaker}
use Rattle.serde_json.specs.View.{view}
use Rattle.serde_json.specs.Written.{has_float}
use Rattle.rustsec_json.specs.Lines.{tree_line}
use Rattle.rustsec_commands.proofs.lemmas.command.NoFloatsOsv.{document-plain}
use Rattle.rustsec_osv_database.proofs.lines.document_line.Goals as goal

pub returns : goal.returns
returns c =
    let is = c.in_ok-tree.ensures in
    let plain : has_float (view c.in_ok-tree.tree) ≡ false = ap has_float is ∙ document-plain c.args.document.now in
    IfOk-weaker c.tree_line.result _ _ (λ t h. h plain ∙ ap tree_line is) c.tree_line.ensures
