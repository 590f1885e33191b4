use Rattle.std.proofs.Common.{◌≡◌}
use Rattle.serde_json.specs.View.{members_view}
use Rattle.rustsec_report.specs.Trees.{functions, with_members}
use Rattle.rustsec_report.proofs.advisory_tree.put_functions.Given as goal

abbrev pub invariant-loop-path : goal.invariant-loop-path
invariant-loop-path l = with_members (members_view l.members.entries) (functions l.path-iterator) ≡ with_members (members_view l.fn.members.entries) (functions l.map)
