use Rattle.std.proofs.Common.{◌≡◌, ◌<◌, ◌==◌, ◌&&◌, ◌||◌, ℕ, false, length, not, take}
use Rattle.std.specs.Prelude.{slice_index_or}
use Rattle.std.specs.List.{list_any}
use Rattle.rustsec_graph.proofs.edges.mark.Given as goal

-- those of the successors so far are marked
abbrev pub invariant-loop-to : goal.invariant-loop-to
invariant-loop-to l = record {
  len : length l.needed.items ≡ length l.initial.needed.items;
  marks : (place : ℕ) → place < length l.initial.needed.items → slice_index_or l.needed.items place false
      ≡ (slice_index_or l.initial.needed.items place false || (not (l.from == place) && list_any (λ to. to == place) (take l.to-index l.successors)));
}
