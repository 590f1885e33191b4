use Rattle.rustsec_graph.proofs.Words.{finds-all}
use Rattle.rustsec_graph.proofs.index.Index.new.Goals as goal

pub invariant_of-result : goal.invariant_of-result
invariant_of-result c = finds-all c.args.old c.args.packages.now c.in_ok-words.words c.in_ok-candidates.candidates.items c.in_ok-candidates.ensures c.in_ok-words.ensures
