use Rattle.rustsec_versions.proofs.lemmas.ranges.Agreement.{all-cuts, kept-alone, kept-apart, kept-empty, kept-order}
use Rattle.rustsec_versions.proofs.lemmas.order.LeastAbove.{successor-least}
use Rattle.rustsec_versions.proofs.versions.advisory_ranges.ranges_for_advisory.Goals as goal

pub returns-clause-ranges : goal.returns-clause-ranges
returns-clause-ranges c = c.in_ok-ranges.ensures.ok.ranges

pub returns-clause-empty : goal.returns-clause-empty
returns-clause-empty c = kept-empty c.args.versions.now c.in_ok-ranges.ranges.items c.in_ok-ranges.ensures.ok

pub returns-clause-apart : goal.returns-clause-apart
returns-clause-apart c = kept-apart c.args.versions.now c.in_ok-ranges.ranges.items c.in_ok-ranges.ensures.ok

pub returns-clause-agree : goal.returns-clause-agree
returns-clause-agree c = c.in_ok-ranges.ensures.ok.agree

pub returns-clause-affects : goal.returns-clause-affects
returns-clause-affects c = c.in_ok-ranges.ensures.ok.agree_affects

pub returns-clause-order : goal.returns-clause-order
returns-clause-order c = kept-order c.args.versions.now c.in_ok-ranges.ranges.items c.in_ok-ranges.ensures.ok

pub returns-clause-cuts : goal.returns-clause-cuts
returns-clause-cuts c = successor-least

pub returns-in_err-ranges-clause-cuts : goal.returns-in_err-ranges-clause-cuts
returns-in_err-ranges-clause-cuts c = successor-least

pub returns-clause-has_cuts : goal.returns-clause-has_cuts
returns-clause-has_cuts c = all-cuts c.args.versions.now

pub returns-in_err-ranges-clause-has_cuts : goal.returns-in_err-ranges-clause-has_cuts
returns-in_err-ranges-clause-has_cuts c = all-cuts c.args.versions.now

pub returns-clause-alone : goal.returns-clause-alone
returns-clause-alone c = kept-alone c.args.versions.now c.in_ok-ranges.ensures.accepted

pub returns-in_err-ranges-clause-alone : goal.returns-in_err-ranges-clause-alone
returns-in_err-ranges-clause-alone c = kept-alone c.args.versions.now c.ranges-2.ensures.accepted
