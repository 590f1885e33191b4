-- The tree of stats has no float, so that its text is known.
use Rattle.std.proofs.Common.{List, [], ◌∷◌, refl}
use Rattle.rustsec_report.proofs.PlainTrees.{AllPlain, Plain, object-plain}
use Rattle.rustsec_stats.specs.StatsTree.{count_entries, counts_tree, stats_entries, stats_tree}
use Rattle.rustsec_stats.specs.declared.stats.Count.{Count}
use Rattle.rustsec_stats.specs.declared.stats.Stats.{Stats}

entries-plain : (cs : List Count) → AllPlain (count_entries cs)
entries-plain [] = tt
entries-plain (c ∷ cs) = (refl, entries-plain cs)

counts-plain : (cs : List Count) → Plain (counts_tree cs)
unfolding counts_tree
counts-plain cs = object-plain (count_entries cs) (entries-plain cs)

pub stats-plain : (s : Stats) → Plain (stats_tree s)
unfolding stats_tree
stats-plain s = object-plain (stats_entries s) (
  refl,
  (
    counts-plain s.categories,
    (counts-plain s.collections, (counts-plain s.kinds, (counts-plain s.severities, (counts-plain s.withdrawals, (counts-plain s.years, tt))))),
  ),
)
