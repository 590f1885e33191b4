use Rattle.std.proofs.Common.{◌∙◌, ap, codes}
use Rattle.rustsec_markdown.specs.MarkdownText.{labelled, unknown_line}
use Rattle.rustsec_markdown.proofs.lines.unknown_line.Goals as goal

pub returns : goal.returns
unfolding unknown_line
returns c = c.in_ok-line.ensures ∙ ap (λ t. labelled (codes "- unknown ignore: ") t) c.as_str.ensures.value
