use Rattle.std.proofs.Common.{◌∙◌, ◌++◌, ap, codes, sym}
use Rattle.rustsec_check_output.specs.CheckJson.{check_json}
use Rattle.rustsec_check_output.proofs.JsonTexts.{check_is}
use Rattle.rustsec_check_output.proofs.tree_lines.check_line.Goals as goal

pub returns-clause-ok : goal.returns-clause-ok
returns-clause-ok c =
    let w = c.args.written.now in
    c.in_ok-push_str.ensures.bytes
    ∙ ap (λ t. t ++ codes "\n") (c.in_ok-push_check.ensures ∙ (ap (λ t. t ++ check_json w) c.in_ok-line.ensures ∙ sym (check_is w)))
