use Rattle.std.proofs.Common.{◌≡◌, ◌∙◌, ap, false}
use Rattle.serde_json.specs.View.{view}
use Rattle.serde_json.specs.Written.{has_float}
use Rattle.rustsec_json.specs.Lines.{tree_line}
use Rattle.rustsec_program.proofs.ExplainPlain.{explain-plain}
use Rattle.rustsec_program.proofs.explain.explain_line.Goals as goal

pub returns-clause-ok : goal.returns-clause-ok
returns-clause-ok c =
    let is = c.in_ok-tree.ensures.ok in
    let plain : has_float (view c.in_ok-tree.tree) ≡ false = ap has_float is ∙ explain-plain c.args.rules.now c.args.pairs.now in
    c.in_ok-line.ensures plain ∙ ap tree_line is
