use Rattle.std.proofs.Common.{◌≡◌, None, drop, option_map}
use Rattle.rustsec_report.specs.ReportText.{last_list}
use Rattle.rustsec_report.proofs.report_json.last_list.Given as goal

-- the last one so far, or that of the rest
abbrev pub invariant-loop-of_kind : goal.invariant-loop-of_kind
invariant-loop-of_kind l = last_list l.kind (option_map (λ list. list.now) l.last) (drop l.of_kind-index l.warnings) ≡ last_list l.kind None l.warnings
