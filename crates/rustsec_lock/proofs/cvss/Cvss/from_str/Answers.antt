use Rattle.rustsec_lock.proofs.CvssRoundTrip.{again_0, again_1}
use Rattle.rustsec_lock.proofs.cvss.Cvss.from_str.Goals as goal

pub returns-in-Some-clause-again : goal.returns-in-Some-clause-again
returns-in-Some-clause-again c = again_0 c.in_ok-base.base c.in_ok-base.ensures.minor

pub returns-in-Some-after_prefix-clause-again : goal.returns-in-Some-after_prefix-clause-again
returns-in-Some-after_prefix-clause-again c = again_1 c.in_ok-base-2.base c.in_ok-base-2.ensures.minor
