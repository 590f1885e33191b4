use Rattle.std.proofs.Common.{◌∙◌, ◌++◌, ap}
use Rattle.std.specs.List.{list_all}
use Rattle.rustsec_markdown.specs.Escaped.{escaped, is_harmless}
use Rattle.rustsec_markdown.proofs.Harmless.{escaped-harmless}
use Rattle.rustsec_markdown.proofs.escaped.markdown_escaped.Goals as goal

pub returns-clause-harmless : goal.returns-clause-harmless
returns-clause-harmless c =
    let text = c.args.text.now in
    ap (list_all is_harmless) (c.in_ok-push_escaped.ensures ∙ ap (λ t. t ++ escaped text) c.new-written.ensures.bytes) ∙ escaped-harmless text
