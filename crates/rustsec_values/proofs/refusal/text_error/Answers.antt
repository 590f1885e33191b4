use Rattle.std.proofs.Common.{◌∙◌}
use Rattle.rustsec_values.proofs.RefusedTexts.{shows}
use Rattle.rustsec_values.proofs.refusal.text_error.Goals as goal

pub returns-in-Ok-clause-shows : goal.returns-in-Ok-clause-shows
returns-in-Ok-clause-shows c =
    shows _ _ _ c.beginning_of-shown.result.now c.deref.result.now c.new.result c.beginning_of-shown.ensures (c.deref.ensures ∙ c.in-Ok.ensures.ok) c.new.ensures
