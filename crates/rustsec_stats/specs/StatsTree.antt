-- The JSON object of stats.
use Rattle.std.specs.Prelude.{List, [], ◌∷◌, codes, map}
use Rattle.serde_json.specs.Data.{Data, number, unsigned}
use Rattle.rustsec_report.specs.Trees.{Entry, object_of}
use Rattle.rustsec_stats.specs.declared.stats.Count.{Count}
use Rattle.rustsec_stats.specs.declared.stats.Stats.{Stats}

-- a key for each row of a table: its name, with its count
abbrev pub count_entries : List Count → List Entry
count_entries cs = map (λ (c : Count). (c.name, number (unsigned c.count))) cs

unfoldable pub counts_tree : List Count → Data
counts_tree cs = object_of (count_entries cs)

-- the number of advisories, and a key for each table
abbrev pub stats_entries : Stats → List Entry
stats_entries s =
    (codes "advisories", number (unsigned s.advisories))
    ∷ (codes "categories", counts_tree s.categories)
    ∷ (codes "collections", counts_tree s.collections)
    ∷ (codes "kinds", counts_tree s.kinds)
    ∷ (codes "severities", counts_tree s.severities)
    ∷ (codes "withdrawals", counts_tree s.withdrawals)
    ∷ (codes "years", counts_tree s.years)
    ∷ []

unfoldable pub stats_tree : Stats → Data
stats_tree s = object_of (stats_entries s)
