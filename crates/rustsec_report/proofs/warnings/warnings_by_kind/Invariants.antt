use Rattle.std.proofs.Common.{◌≡◌, [], drop, map}
use Rattle.rustsec_database.specs.Pairs.{as_vulnerability}
use Rattle.rustsec_report.proofs.ByKind.{listed}
use Rattle.rustsec_report.specs.Report.{warnings_of_kind}
use Rattle.rustsec_report.proofs.warnings.warnings_by_kind.Given as goal

-- those so far and those of the kinds that are left are those of all kinds
abbrev pub invariant-loop-kind : goal.invariant-loop-kind
invariant-loop-kind l =
    listed (warnings_of_kind l.settings (map as_vulnerability l.pairs)) l.warnings (drop l.kind-index l.kind-items)
    ≡ listed (warnings_of_kind l.settings (map as_vulnerability l.pairs)) [] l.kind-items
