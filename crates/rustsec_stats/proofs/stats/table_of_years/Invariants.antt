use Rattle.std.proofs.Common.{◌≡◌, take}
use Rattle.std.specs.Fmt.{decimal}
use Rattle.rustsec_stats.specs.Stats.{table_of}
use Rattle.rustsec_stats.specs.Years.{is_of_year}
use Rattle.rustsec_stats.proofs.stats.table_of_years.Given as goal

-- the years so far
abbrev pub invariant-loop-year : goal.invariant-loop-year
invariant-loop-year l = l.counts ≡ table_of decimal is_of_year (take l.year-index l.years) l.advisories
