use Rattle.std.proofs.Common.{◌≡◌, ◌++◌}
use Rattle.semver.specs.Identifiers.{parts_of}
use Rattle.rustsec_database.specs.Functions.{matching}
use Rattle.rustsec_database.proofs.functions.matching.Given as goal

abbrev pub invariant-loop-path : goal.invariant-loop-path
invariant-loop-path l = l.paths.items ++ matching (parts_of l.version) l.path-iterator ≡ matching (parts_of l.version) l.functions
