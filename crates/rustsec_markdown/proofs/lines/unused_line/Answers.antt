use Rattle.std.proofs.Common.{◌∙◌, ap, codes}
use Rattle.rustsec_markdown.specs.MarkdownText.{labelled, unused_line}
use Rattle.rustsec_markdown.proofs.lines.unused_line.Goals as goal

pub returns : goal.returns
unfolding unused_line
returns c = c.in_ok-line.ensures ∙ ap (λ t. labelled (codes "- unused ignore: ") t) c.as_str.ensures.value
