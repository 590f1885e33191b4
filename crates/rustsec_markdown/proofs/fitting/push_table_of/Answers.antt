use Rattle.std.proofs.Common.{◌∙◌, ◌++◌, ap, codes, string_bytes}
use Rattle.rustsec_markdown.specs.MarkdownText.{left_words, table_of}
use Rattle.rustsec_markdown.proofs.Pieces.{three_pieces}
use Rattle.rustsec_markdown.proofs.fitting.push_table_of.Goals as goal

pub returns-clause-ok : goal.returns-clause-ok
unfolding table_of
returns-clause-ok c =
    let one = codes " finding is left out, for lack of space.\n" in
    let many = codes " findings are left out, for lack of space.\n" in
    three_pieces _ _ _ _ _ _ _ c.in_ok-push_table_head.ensures.ok c.in_ok-left.ensures.ok
    (c.in_ok-push_left.ensures.ok ∙ ap (λ n. string_bytes c.push_fitting.new.text ++ left_words n one many) c.in_ok-left.ensures.left)
