use Rattle.std.proofs.Common.{◌≡◌, ◌<◌, [], length, ℕ}
use Rattle.std.specs.Prelude.{slice_index_or}
use Rattle.std.specs.List.{filter, range_with_len}
use Rattle.rustsec_graph.specs.Edges.{is_successor}
use Rattle.rustsec_graph.proofs.reverse.reversed.Given as goal

-- each list has those of the places so far
abbrev pub invariant-loop-place : goal.invariant-loop-place
invariant-loop-place l = record {
  len : length l.lists.items ≡ length l.edges;
  each : (p : ℕ) → p < length l.edges → slice_index_or l.lists.items p [] ≡ filter (is_successor l.edges p) (range_with_len 0 l.place);
}
