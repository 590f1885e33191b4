use Rattle.std.proofs.Common.{◌≡◌, length, take}
use Rattle.rustsec_graph.specs.Search.{visits}
use Rattle.rustsec_graph.proofs.search.Search.visit_all.Given as goal

abbrev pub invariant-loop-place : goal.invariant-loop-place
invariant-loop-place l = record {
  wide : length l.self.seats ≡ length l.initial.self.seats;
  so_far : l.self ≡ visits l.before l.initial.self (take l.place-index l.places);
}
