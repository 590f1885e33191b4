use Rattle.std.proofs.Common.{sym}
use Rattle.rustsec_graph.proofs.Sources.{before-master, no-master}
use Rattle.rustsec_graph.proofs.candidates.without_master.Goals as goal

pub returns-in-Some : goal.returns-in-Some
returns-in-Some c = sym (before-master c.args.source.now _ c.in-Some.ensures.cases)

pub returns-in-None : goal.returns-in-None
returns-in-None c = sym (no-master c.args.source.now c.in-None.ensures.cases)
