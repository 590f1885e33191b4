use Rattle.rustsec_markdown.specs.MarkdownText.{looked_at_words}
use Rattle.rustsec_markdown.proofs.Pieces.{three_pieces}
use Rattle.rustsec_markdown.proofs.text.push_looked_at.Goals as goal

pub returns-clause-ok : goal.returns-clause-ok
unfolding looked_at_words
returns-clause-ok c =
    three_pieces _ _ _ _ _ _ _ c.in_ok-push_str.ensures.bytes c.in_ok-push_counted.ensures.ok c.in_ok-push_counted-2.ensures.ok
