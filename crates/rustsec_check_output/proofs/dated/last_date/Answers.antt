use Rattle.rustsec_database.proofs.Latest.{dates-all, dates-more}
use Rattle.rustsec_check_output.proofs.dated.last_date.Goals as goal

pub loop-advisory-preserved : goal.loop-advisory-preserved
loop-advisory-preserved c =
    dates-more c.args.advisories.now c.loop-advisory.advisory-index c.advisory-item.result _ _ c.loop-advisory-test.true c.advisory-item.is
    c.loop-advisory.invariant c.later-latest.ensures

pub returns : goal.returns
returns c = dates-all c.args.advisories.now c.loop-advisory.advisory-index _ c.loop-advisory-test.false c.loop-advisory.invariant
