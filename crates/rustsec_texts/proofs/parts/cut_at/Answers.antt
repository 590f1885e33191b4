use Rattle.rustsec_texts.proofs.Cutting.{cut_at-splits}
use Rattle.rustsec_texts.proofs.parts.cut_at.Goals as goal

pub returns : goal.returns
returns c = cut_at-splits _ _ c.split_once.result c.split_once.ensures.cases
