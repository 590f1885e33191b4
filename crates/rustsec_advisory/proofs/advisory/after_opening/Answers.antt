use Rattle.std.proofs.Common.{◌≡◌, ◌∙◌, None, Some, sym}
use Rattle.rustsec_texts.proofs.Cutting.{after_prefix-strips}
use Rattle.rustsec_advisory.proofs.advisory.after_opening.Goals as goal

pub returns-in-Some : goal.returns-in-Some
returns-in-Some c = λ body opened. cc (sym (after_prefix-strips _ c.args.text.now (Some c.in-Some.body) c.in-Some.ensures.cases) ∙ opened)

pub returns-in-None : goal.returns-in-None
returns-in-None c = λ body opened. cc (sym (after_prefix-strips _ c.args.text.now None c.in-None.ensures.cases) ∙ opened)
