use Rattle.std.proofs.Common.{◌≡◌, drop, map}
use Rattle.semver.specs.Identifiers.{parts_of}
use Rattle.rustsec_versions.specs.Views.{comparators_of}
use Rattle.rustsec_database.specs.Functions.{matches_some}
use Rattle.rustsec_database.proofs.functions.matches_some.Given as goal

abbrev pub invariant-loop-req : goal.invariant-loop-req
invariant-loop-req l = matches_some (parts_of l.version) (map comparators_of (drop l.req-index l.reqs)) ≡ matches_some (parts_of l.version) (map comparators_of l.reqs)
