use Rattle.std.proofs.Common.{◌∙◌}
use Rattle.rustsec_texts.proofs.Beginning.{shows}
use Rattle.rustsec_texts.proofs.parts.start_error.Goals as goal

pub returns-in-Ok : goal.returns-in-Ok
returns-in-Ok c =
    shows _ c.beginning_of-beginning.result.now c.deref.result.now c.new.result c.beginning_of-beginning.ensures (c.deref.ensures ∙ c.in-Ok.ensures.ok) c.new.ensures
