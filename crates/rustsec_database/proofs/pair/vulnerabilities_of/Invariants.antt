use Rattle.std.proofs.Common.{◌≡◌, map, take}
use Rattle.rustsec_database.specs.Pairs.{as_vulnerability}
use Rattle.rustsec_database.proofs.pair.vulnerabilities_of.Given as goal

-- the vulnerabilities so far are those of the pairs so far
abbrev pub invariant-loop-pair : goal.invariant-loop-pair
invariant-loop-pair l = l.vulnerabilities ≡ map as_vulnerability (take l.pair-index l.pairs)
