use Rattle.std.proofs.Common.{◌∙◌, sym}
use Rattle.rustsec_osv_rules.proofs.schema.Folds.{any_at}
use Rattle.rustsec_osv_rules.specs.schema.Rows.{row_of}
use Rattle.rustsec_osv_rules.specs.schema.VectorScan.{is_metric}
use Rattle.rustsec_osv_rules.proofs.schema.metrics.is_metric_of.Goals as goal

pub returns-then-is_metric : goal.returns-then-is_metric
returns-then-is_metric c =
    sym (any_at row_of (is_metric c.args.text.now) c.args.rows.now c.loop-row.row-index _ c.loop-row-test.true (sym c.is_metric.ensures ∙ c.if-is_metric.true))
