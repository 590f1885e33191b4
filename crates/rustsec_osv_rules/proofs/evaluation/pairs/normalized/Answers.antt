use Rattle.std.proofs.Common.{rules}
use Rattle.rustsec_osv_rules.proofs.evaluation.SameAnswers.{answer-kept, same-verdict}
use Rattle.rustsec_osv_rules.proofs.evaluation.pairs.normalized.Goals as goal

pub returns-clause-keeps : goal.returns-clause-keeps
returns-clause-keeps c = answer-kept _ c.args.document (search rules)

pub returns-clause-same_verdict : goal.returns-clause-same_verdict
returns-clause-same_verdict c = same-verdict c.in_ok-affected.affected c.args.document.affected (search rules)
