use Rattle.std.proofs.Common.{◌≡◌, ◌++◌, drop, false, string_bytes}
use Rattle.std.specs.Prelude.{codes}
use Rattle.rustsec_report.specs.ReportText.{kinds_text}
use Rattle.rustsec_report.proofs.report_json.push_warnings.Given as goal

-- what is written, and the kinds that are left
abbrev pub invariant-loop-kind : goal.invariant-loop-kind
invariant-loop-kind l =
    string_bytes l.json ++ kinds_text l.later l.warnings (drop l.kind-index l.kind-items)
    ≡ string_bytes l.fn.json ++ (codes "{" ++ kinds_text false l.warnings l.kind-items)
