use Rattle.std.proofs.Common.{arith}
use Rattle.rustsec_osv_rules.proofs.schema.Times.{short_time}
use Rattle.rustsec_osv_rules.proofs.schema.time.is_time.Goals as goal

pub returns-then-text-lt19 : goal.returns-then-text-lt19
returns-then-text-lt19 c = short_time c.args.text.now (omega arith)
