use Rattle.std.proofs.Common.{◌≡◌, ◌++◌, drop, map}
use Rattle.rustsec_database.specs.Pairs.{as_vulnerability}
use Rattle.rustsec_report.specs.Report.{warnings_of_kind}
use Rattle.rustsec_report.proofs.warnings.warnings_of_kind.Given as goal

abbrev pub invariant-loop-pair : goal.invariant-loop-pair
invariant-loop-pair l =
    l.warnings ++ warnings_of_kind l.settings (map as_vulnerability (drop l.pair-index l.pairs)) l.kind
    ≡ warnings_of_kind l.settings (map as_vulnerability l.pairs) l.kind
