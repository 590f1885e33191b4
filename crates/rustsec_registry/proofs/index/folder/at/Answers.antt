use Rattle.std.proofs.Common.{◌∙◌}
use Rattle.rustsec_registry.proofs.Entries.{at_is}
use Rattle.rustsec_registry.proofs.index.folder.at.Goals as goal

pub returns : goal.returns
returns c = c.get.ensures ∙ at_is c.args.answers.now c.args.name.now
