use Rattle.std.proofs.Common.{◌≡◌, ◌++◌}
use Rattle.rustsec_report.proofs.report_ref.refs_by_kind.Given as goal

abbrev pub invariant-loop-kind : goal.invariant-loop-kind
invariant-loop-kind l = l.refs ++ l.kind-iterator ≡ l.warnings
