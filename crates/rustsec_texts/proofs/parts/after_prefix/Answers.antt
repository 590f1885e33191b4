use Rattle.rustsec_texts.proofs.Cutting.{after_prefix-strips}
use Rattle.rustsec_texts.proofs.parts.after_prefix.Goals as goal

pub returns : goal.returns
returns c = after_prefix-strips _ _ c.strip_prefix.result c.strip_prefix.ensures.cases
