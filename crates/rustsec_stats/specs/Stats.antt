-- How many advisories there are, by table and row.
use Rattle.std.specs.Prelude.{ℕ, Bool, List, count_by, length, map}
use Rattle.std.specs.Fmt.{decimal}
use Rattle.rustsec_advisory.specs.declared.advisory.Advisory.{Advisory}
use Rattle.rustsec_stats.specs.CategoryRows.{category_row_name, category_rows, has_category}
use Rattle.rustsec_stats.specs.Rows.{collection_row_name, collection_rows, has_severity, is_counted_in, is_of_kind, is_withdrawal, kind_row_name, kind_rows, severity_row_name, severity_rows, withdrawal_row_name, withdrawal_rows}
use Rattle.rustsec_stats.specs.Years.{is_of_year, years}
use Rattle.rustsec_stats.specs.declared.stats.Count.{Count}
use Rattle.rustsec_stats.specs.declared.stats.Stats.{Stats}

-- a name, and how many advisories pass a test
abbrev pub count_of : List ℕ → (Advisory → Bool) → List Advisory → Count
count_of name test all = record { name = name; count = count_by test all }

-- a table: for each row its name, and how many advisories it counts
abbrev pub table_of : {R : Type 0} → (R → List ℕ) → (R → Advisory → Bool) → List R → List Advisory → List Count
table_of name counts rows all = map (λ r. count_of (name r) (counts r) all) rows

-- the stats of some advisories
unfoldable pub stats_of : List Advisory → Stats
stats_of all = record {
  advisories = length all;
  collections = table_of collection_row_name is_counted_in collection_rows all;
  years = table_of decimal is_of_year (years all) all;
  kinds = table_of kind_row_name is_of_kind kind_rows all;
  categories = table_of category_row_name has_category category_rows all;
  severities = table_of severity_row_name has_severity severity_rows all;
  withdrawals = table_of withdrawal_row_name is_withdrawal withdrawal_rows all;
}
