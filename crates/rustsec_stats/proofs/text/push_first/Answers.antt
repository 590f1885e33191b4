use Rattle.std.proofs.Common.{append_assoc, refl}
use Rattle.rustsec_stats.specs.StatsText.{first_tables}
use Rattle.rustsec_stats.proofs.text.push_first.Goals as goal

pub returns : goal.returns
unfolding first_tables
returns c =
    simp (
      c.in_ok-push_table-3.ensures,
      c.in_ok-push_table-2.ensures,
      c.in_ok-push_table.ensures,
      c.as_slice.ensures,
      c.as_slice-2.ensures,
      c.as_slice-3.ensures,
      append_assoc,
    ) refl
