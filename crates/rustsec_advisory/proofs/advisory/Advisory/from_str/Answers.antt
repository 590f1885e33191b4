use Rattle.rustsec_advisory.proofs.Unique.{advisory_unique}
use Rattle.rustsec_advisory.proofs.advisory.Advisory.from_str.Goals as goal

pub returns-clause-only : goal.returns-clause-only
returns-clause-only c b k = advisory_unique _ b _ k (_, c.in_ok-advisory.ensures.ok)
