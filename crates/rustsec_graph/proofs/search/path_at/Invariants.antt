use Rattle.std.proofs.Common.{◌≡◌, ◌++◌, reverse, suc}
use Rattle.std.specs.Option.{option_map_or}
use Rattle.rustsec_graph.specs.Search.{path_at, path_if}
use Rattle.rustsec_graph.proofs.search.path_at.Given as goal

-- the path to the next seat, and then the places so far, back from the last
abbrev pub invariant-seats : goal.invariant-seats
invariant-seats l = path_at l.search l.fn.seat ≡ path_if l.search l.next ++ reverse l.path.items

abbrev pub decreases-seats : goal.decreases-seats
decreases-seats l = option_map_or (λ n. suc n) l.next 0
