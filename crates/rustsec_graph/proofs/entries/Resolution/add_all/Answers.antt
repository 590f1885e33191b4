use Rattle.toml.specs.View.{view}
use Rattle.rustsec_graph.specs.Edges.{unnamed_by}
use Rattle.rustsec_graph.specs.Entries.{named_by}
use Rattle.rustsec_graph.proofs.Lists.{values-more}
use Rattle.rustsec_graph.proofs.entries.Resolution.add_all.Goals as goal

pub loop-entry-preserved : goal.loop-entry-preserved
loop-entry-preserved c = record {
  targets = values-more (λ d. named_by c.args.index.now (view d)) c.args.entries.now c.loop-entry.entry-index c.entry-item.result
      c.args.self.now.targets c.loop-entry.self.targets c.add.new.self.targets
      c.loop-entry-test.true c.entry-item.is c.loop-entry.invariant.targets c.in_ok-add.ensures.targets;
  unresolved = values-more (λ d. unnamed_by c.args.index.now (view d)) c.args.entries.now c.loop-entry.entry-index c.entry-item.result
      c.args.self.now.unresolved c.loop-entry.self.unresolved c.add.new.self.unresolved
      c.loop-entry-test.true c.entry-item.is c.loop-entry.invariant.unresolved c.in_ok-add.ensures.unresolved;
}
