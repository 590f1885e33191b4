use Rattle.std.proofs.Common.{◌∙◌}
use Rattle.rustsec_registry.proofs.Entries.{at_is}
use Rattle.rustsec_registry.proofs.cache_entry.at_name.Goals as goal

pub returns : goal.returns
returns c = c.get.ensures ∙ at_is c.args.kept.now c.args.name.now
