use Rattle.std.proofs.Common.{◌≡◌, false, map, take}
use Rattle.std.specs.List.{list_any}
use Rattle.rustsec_osv_rules.specs.schema.Rows.{row_of}
use Rattle.rustsec_osv_rules.specs.schema.VectorScan.{is_metric}
use Rattle.rustsec_osv_rules.proofs.schema.metrics.is_metric_of.Given as goal

-- the text is the metric of none of the rows so far
abbrev pub invariant-loop-row : goal.invariant-loop-row
invariant-loop-row l = list_any (is_metric l.text) (map row_of (take l.row-index l.rows)) ≡ false
