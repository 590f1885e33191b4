use Rattle.std.proofs.Common.{refl}
use Rattle.rustsec_stats.specs.Stats.{stats_of}
use Rattle.rustsec_stats.proofs.stats.tables.Goals as goal

pub returns : goal.returns
unfolding stats_of
returns c =
    rw (
      c.in_ok-table.ensures,
      c.in_ok-year_table.ensures,
      c.in_ok-table-2.ensures,
      c.in_ok-table-3.ensures,
      c.in_ok-table-4.ensures,
      c.in_ok-table-5.ensures,
    ) refl
