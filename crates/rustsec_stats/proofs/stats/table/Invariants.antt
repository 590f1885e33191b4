use Rattle.std.proofs.Common.{◌≡◌, take}
use Rattle.rustsec_stats.specs.Stats.{table_of}
use Rattle.rustsec_stats.proofs.stats.table.Given as goal

-- the rows so far
abbrev pub invariant-loop-row : goal.invariant-loop-row
invariant-loop-row g l = l.counts ≡ table_of g.R.ClosedEnum.name_of g.R.Row.counts (take l.row-index l.row-items) l.advisories
