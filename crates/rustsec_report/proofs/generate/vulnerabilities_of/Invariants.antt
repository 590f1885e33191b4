use Rattle.std.proofs.Common.{◌≡◌, map, take}
use Rattle.rustsec_database.specs.Pairs.{as_vulnerability}
use Rattle.rustsec_report.proofs.generate.vulnerabilities_of.Given as goal

abbrev pub invariant-loop-pair : goal.invariant-loop-pair
invariant-loop-pair l = l.refs ≡ map as_vulnerability (take l.pair-index l.pairs)
