use Rattle.rustsec_osv_rules.proofs.schema.MetricRows.{after_from_strip}
use Rattle.rustsec_osv_rules.proofs.schema.vectors.text_after.Goals as goal

pub returns : goal.returns
returns c = after_from_strip c.args.prefix.now c.args.text.now c.strip_prefix.result c.strip_prefix.ensures.cases
