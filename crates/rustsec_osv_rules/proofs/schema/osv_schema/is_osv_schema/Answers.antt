use Rattle.rustsec_osv_rules.proofs.schema.Rules.{decided}
use Rattle.rustsec_osv_rules.proofs.schema.osv_schema.is_osv_schema.Goals as goal

pub returns : goal.returns
returns c = decided _ c.keeps_all.result c.keeps_all.ensures
