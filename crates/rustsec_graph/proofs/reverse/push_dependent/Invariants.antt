use Rattle.std.proofs.Common.{◌≡◌, ◌++◌, ◌<◌, ◌==◌, ◌∷◌, [], if◌then◌else◌, length, take, ℕ}
use Rattle.std.specs.Prelude.{slice_index_or}
use Rattle.std.specs.List.{list_any}
use Rattle.rustsec_graph.proofs.reverse.push_dependent.Given as goal

-- the place is in the lists of the successors so far
abbrev pub invariant-loop-to : goal.invariant-loop-to
invariant-loop-to l = record {
  len : length l.lists.items ≡ length l.initial.lists.items;
  ok : (p : ℕ) → p < length l.initial.lists.items → slice_index_or l.lists.items p []
      ≡ slice_index_or l.initial.lists.items p [] ++ (if list_any (λ to. to == p) (take l.to-index l.successors) then l.place ∷ [] else []);
}
