use Rattle.std.proofs.Common.{◌∙◌, ◌++◌, ap, decimal, string_bytes}
use Rattle.rustsec_markdown.specs.MarkdownText.{found_words}
use Rattle.rustsec_markdown.proofs.Pieces.{four_pieces, three_pieces}
use Rattle.rustsec_markdown.proofs.text.push_found.Goals as goal

pub returns-clause-ok : goal.returns-clause-ok
unfolding found_words
returns-clause-ok c =
    let denied = c.in_ok-push_number.ensures.ok ∙ ap (λ n. string_bytes c.push_counted.new.text ++ decimal n) c.denied_in-denied.ensures in
    let allowed = c.in_ok-push_number-2.ensures.ok ∙ ap (λ n. string_bytes c.push_str-2.new.self ++ decimal n) c.allowed_in-allowed.ensures in
    let rest = three_pieces _ _ _ _ _ _ _ c.in_ok-push_str-2.ensures.bytes allowed c.in_ok-push_str-3.ensures.bytes in
    four_pieces _ _ _ _ _ _ _ _ _ c.in_ok-push_str.ensures.bytes c.in_ok-push_counted.ensures.ok denied rest
