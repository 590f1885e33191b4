use Rattle.std.proofs.Common.{◌∙◌, ap}
use Rattle.serde_json.specs.Written.{has_float}
use Rattle.rustsec_json.specs.Lines.{tree_line}
use Rattle.rustsec_sarif.proofs.NoFloats.{sarif_plain}
use Rattle.rustsec_sarif.proofs.log.sarif_text.Goals as goal

pub returns-clause-ok : goal.returns-clause-ok
returns-clause-ok c =
    let is = c.in_ok-tree.ensures.ok in
    c.in_ok-line.ensures (ap has_float is ∙ sarif_plain c.args.path.now c.args.places.now c.args.written.now) ∙ ap tree_line is
