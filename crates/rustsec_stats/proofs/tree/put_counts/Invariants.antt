use Rattle.std.proofs.Common.{◌≡◌, drop}
use Rattle.serde_json.specs.View.{members_view}
use Rattle.rustsec_report.specs.Trees.{with_members}
use Rattle.rustsec_stats.specs.StatsTree.{count_entries}
use Rattle.rustsec_stats.proofs.tree.put_counts.Given as goal

-- with the rows that are left the object has all keys
abbrev pub invariant-loop-row : goal.invariant-loop-row
invariant-loop-row l =
    with_members (members_view l.members.entries) (count_entries (drop l.row-index l.counts))
    ≡ with_members (members_view l.fn.members.entries) (count_entries l.counts)
