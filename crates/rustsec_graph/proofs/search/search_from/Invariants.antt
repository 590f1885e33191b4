use Rattle.std.proofs.Common.{◌-◌, length}
use Rattle.rustsec_graph.specs.Search.{IsSearchTo}
use Rattle.rustsec_graph.proofs.search.search_from.Given as goal

-- the places that the seats so far lead to are found
abbrev pub invariant-seats : goal.invariant-seats
invariant-seats l = IsSearchTo l.edges l.roots l.seat l.search

abbrev pub decreases-seats : goal.decreases-seats
decreases-seats l = length l.edges - l.seat
