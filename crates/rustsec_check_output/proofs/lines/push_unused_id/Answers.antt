use Rattle.std.proofs.Common.{◌∙◌, ◌++◌, ap, codes, string_bytes}
use Rattle.rustsec_check_output.specs.CheckText.{labelled, unused_line}
use Rattle.rustsec_check_output.proofs.lines.push_unused_id.Goals as goal

pub returns : goal.returns
unfolding unused_line
returns c =
    c.in_ok-push_labelled.ensures
    ∙ ap (λ t. string_bytes c.args.text.now ++ labelled (codes "unused ignore: ") t) c.as_str.ensures.value
