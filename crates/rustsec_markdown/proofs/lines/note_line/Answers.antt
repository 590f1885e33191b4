use Rattle.std.proofs.Common.{◌∙◌, ap, codes}
use Rattle.rustsec_markdown.specs.MarkdownText.{labelled, note_line}
use Rattle.rustsec_markdown.proofs.lines.note_line.Goals as goal

pub returns : goal.returns
unfolding note_line
returns c = c.in_ok-line.ensures ∙ ap (λ t. labelled (codes "- note: ") t) c.as_str.ensures
