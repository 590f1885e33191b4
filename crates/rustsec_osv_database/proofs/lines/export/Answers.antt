use Rattle.rustsec_osv_database.proofs.Parts.{one-more}
use Rattle.rustsec_osv_database.proofs.lines.export.Goals as goal

pub loop-advisory-preserved : goal.loop-advisory-preserved
loop-advisory-preserved c =
    let (p, (h, more, next)) = c.in_ok-push_part.ensures in
    one-more _ _ _ _ _ p _ _ _ _ c.loop-advisory-test.true c.advisory-item.is c.loop-advisory.invariant h more next
