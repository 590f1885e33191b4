use Rattle.std.proofs.Common.{◌∙◌, ap}
use Rattle.serde_json.specs.Written.{has_float}
use Rattle.rustsec_json.specs.Lines.{tree_line}
use Rattle.rustsec_lint_output.proofs.LintPlain.{lint-plain}
use Rattle.rustsec_lint_output.proofs.line.lint_line.Goals as goal

pub returns : goal.returns
returns c =
    let is = c.in_ok-tree.ensures in
    c.in_ok-line.ensures (ap has_float is ∙ lint-plain c.args.upstream c.args.counts c.args.entries.now) ∙ ap tree_line is
