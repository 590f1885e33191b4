use Rattle.std.proofs.Common.{◌≡◌, drop}
use Rattle.serde_json.specs.View.{members_view}
use Rattle.rustsec_report.specs.Trees.{kinds_of_warnings, with_members}
use Rattle.rustsec_report.proofs.report_tree.put_warnings.Given as goal

abbrev pub invariant-loop-of_kind : goal.invariant-loop-of_kind
invariant-loop-of_kind l =
    with_members (members_view l.members.entries) (kinds_of_warnings (drop l.of_kind-index l.warnings)) ≡ with_members (members_view l.fn.members.entries) (kinds_of_warnings l.warnings)
