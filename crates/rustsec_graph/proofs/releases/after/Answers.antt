use Rattle.rustsec_lock.proofs.CvssParts.{after_prefix_from_strip}
use Rattle.rustsec_graph.proofs.releases.after.Goals as goal

pub returns : goal.returns
returns c = after_prefix_from_strip c.args.prefix.now c.args.text.now c.strip_prefix.result c.strip_prefix.ensures.cases
