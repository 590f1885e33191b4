-- Rows of the tables of metrics, as the code holds them.
use Rattle.std.specs.Prelude.{ℕ, List}
use denote.Ref.{Bor}
use Rattle.rustsec_osv_rules.specs.schema.VectorScan.{Row}

-- a row of two borrowed texts
abbrev pub row_of : Bor (List ℕ) × Bor (List ℕ) → Row
row_of r = (r.0.now, r.1.now)
