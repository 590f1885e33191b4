use Rattle.std.proofs.Common.{◌≡◌, ◌||◌, not}
use Rattle.std.specs.Prelude.{slice_get}
use Rattle.std.specs.List.{filter, range_with_len}
use Rattle.rustsec_graph.specs.Edges.{is_needed}
use Rattle.rustsec_graph.specs.Graph.{is_local}
use Rattle.rustsec_graph.proofs.edges.roots_of.Given as goal

-- those of the places so far
abbrev pub invariant-loop-place : goal.invariant-loop-place
invariant-loop-place l = l.roots.items ≡ filter (λ place. is_local (slice_get l.packages place) || not (is_needed l.edges place)) (range_with_len 0 l.place)
