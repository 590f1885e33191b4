use Rattle.std.proofs.Common.{rules}
use Rattle.rustsec_report.specs.Filter.{filtered}
use Rattle.rustsec_report.proofs.RoundTrip.{again-from}
use Rattle.rustsec_report.proofs.filter.filter_report_by_binary_type.Goals as goal

pub returns-clause-value : goal.returns-clause-value
unfolding filtered
returns-clause-value c = search rules

pub returns-clause-again : goal.returns-clause-again
returns-clause-again c = again-from c.args.binary_type.now c.args.report.now _ (returns-clause-value c)
