use Rattle.rustsec_markdown.proofs.Lengths.{decimal-short, one-piece}
use Rattle.rustsec_markdown.proofs.fitting.push_number.Goals as goal

pub returns-clause-short : goal.returns-clause-short
returns-clause-short c = one-piece _ _ _ 20 c.in_ok-write.ensures.bytes (decimal-short c.args.n c.ranges.n.fits)
