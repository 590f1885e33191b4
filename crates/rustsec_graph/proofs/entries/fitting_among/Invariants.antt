use Rattle.std.proofs.Common.{◌≡◌, take}
use Rattle.std.specs.List.{filter}
use Rattle.rustsec_graph.specs.Entries.{fits_at}
use Rattle.rustsec_graph.proofs.entries.fitting_among.Given as goal

abbrev pub invariant-loop-place : goal.invariant-loop-place
invariant-loop-place l = l.fitting.items ≡ filter (fits_at l.candidates l.entry) (take l.place-index l.places)
