use Rattle.std.proofs.Common.{◌≡◌, ◌++◌, take}
use Rattle.std.specs.List.{filter_map}
use Rattle.toml.specs.View.{view}
use Rattle.rustsec_graph.specs.Edges.{unnamed_by}
use Rattle.rustsec_graph.specs.Entries.{named_by}
use Rattle.rustsec_graph.proofs.entries.Resolution.add_all.Given as goal

-- what the entries so far give comes after what was there before
abbrev pub invariant-loop-entry : goal.invariant-loop-entry
invariant-loop-entry l = record {
  targets : l.self.targets ≡ l.initial.self.targets ++ filter_map (λ d. named_by l.index (view d)) (take l.entry-index l.entries);
  unresolved : l.self.unresolved ≡ l.initial.self.unresolved ++ filter_map (λ d. unnamed_by l.index (view d)) (take l.entry-index l.entries);
}
