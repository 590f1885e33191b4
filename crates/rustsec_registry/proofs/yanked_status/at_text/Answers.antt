use Rattle.std.proofs.Common.{◌∙◌}
use Rattle.rustsec_registry.proofs.Entries.{at_is}
use Rattle.rustsec_registry.proofs.yanked_status.at_text.Goals as goal

pub returns : goal.returns
returns c = c.copied.ensures ∙ (c.get.ensures ∙ at_is c.args.entries.now c.args.text.now)
