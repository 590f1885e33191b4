use Rattle.std.proofs.Common.{◌∙◌, ◌++◌, ap}
use Rattle.rustsec_check_output.specs.CheckJson.{many_json}
use Rattle.rustsec_check_output.proofs.JsonTexts.{many_is}
use Rattle.rustsec_check_output.proofs.tree_lines.many_line.Goals as goal

pub returns-clause-ok : goal.returns-clause-ok
returns-clause-ok c =
    let path = c.args.path.now in
    let w = c.args.written.now in
    c.in_ok-push_many.ensures ∙ (ap (λ t. t ++ many_json path w) c.in_ok-line.ensures ∙ many_is path w)
