use Rattle.std.proofs.Common.{◌≡◌, ◌<◌, ◌==◌, ◌&&◌, ℕ, false, length, not}
use Rattle.std.specs.Prelude.{slice_index_or}
use Rattle.std.specs.List.{list_any, range_with_len}
use Rattle.rustsec_graph.specs.Edges.{is_successor}
use Rattle.rustsec_graph.proofs.edges.needed_of.Given as goal

-- the successors of the places so far are marked
abbrev pub invariant-loop-from : goal.invariant-loop-from
invariant-loop-from l = record {
  len : length l.needed.items ≡ length l.edges;
  marks : (place : ℕ) → place < length l.edges → slice_index_or l.needed.items place false
      ≡ list_any (λ from. not (from == place) && is_successor l.edges place from) (range_with_len 0 l.from);
}
