use Rattle.std.proofs.Common.{◌≡◌, true, take}
use Rattle.std.specs.List.{list_all}
use Rattle.rustsec_graph.specs.Entries.{is_same_release}
use Rattle.rustsec_graph.proofs.entries.have_release.Given as goal

abbrev pub invariant-loop-other : goal.invariant-loop-other
invariant-loop-other l = list_all (λ x. is_same_release l.candidates x l.place) (take l.other-index l.places) ≡ true
