use Rattle.std.proofs.Common.{◌≡◌, drop, map}
use Rattle.rustsec_osv_rules.specs.schema.Rows.{row_of}
use Rattle.rustsec_osv_rules.specs.schema.VectorScan.{after_each}
use Rattle.rustsec_osv_rules.proofs.schema.metrics.after_each.Given as goal

-- what is left of the rows leads from what is left of the text to the same
abbrev pub invariant-loop-row : goal.invariant-loop-row
invariant-loop-row l = after_each (map row_of (drop l.row-index l.rows)) l.rest ≡ after_each (map row_of l.rows) l.text
