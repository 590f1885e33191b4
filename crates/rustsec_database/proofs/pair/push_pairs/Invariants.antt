use Rattle.std.proofs.Common.{◌≡◌, ◌++◌, map, take}
use Rattle.rustsec_database.proofs.Pairs.{as_pair}
use Rattle.rustsec_database.proofs.pair.push_pairs.Given as goal

-- the pairs of the advisories so far are appended
abbrev pub invariant-loop-advisory : goal.invariant-loop-advisory
invariant-loop-advisory l = l.pairs.items ≡ l.initial.pairs.items ++ map (as_pair l.«package») (map (λ a. a.now) (take l.advisory-index l.advisories))
