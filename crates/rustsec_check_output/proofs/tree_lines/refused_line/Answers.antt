use Rattle.std.proofs.Common.{◌∙◌, ◌++◌, ap}
use Rattle.rustsec_check_output.specs.CheckJson.{refused_json}
use Rattle.rustsec_check_output.proofs.JsonTexts.{refused_is}
use Rattle.rustsec_check_output.proofs.tree_lines.refused_line.Goals as goal

pub returns-clause-ok : goal.returns-clause-ok
returns-clause-ok c =
    let path = c.args.path.now in
    c.in_ok-push_refused.ensures ∙ (ap (λ t. t ++ refused_json path c.args.kind) c.new-line.ensures.bytes ∙ refused_is path c.args.kind)
