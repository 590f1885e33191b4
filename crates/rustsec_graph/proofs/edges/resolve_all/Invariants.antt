use Rattle.std.proofs.Common.{◌≡◌, map}
use Rattle.std.specs.List.{range_with_len}
use Rattle.toml.specs.View.{table_view}
use Rattle.rustsec_graph.specs.Edges.{targets_at, unresolved_at}
use Rattle.rustsec_graph.proofs.edges.resolve_all.Given as goal

abbrev pub invariant-loop-place : goal.invariant-loop-place
invariant-loop-place l = record {
  edges : l.edges ≡ map (targets_at l.index (table_view l.table)) (range_with_len 0 l.place);
  unresolved : l.unresolved ≡ map (unresolved_at l.index (table_view l.table)) (range_with_len 0 l.place);
}
