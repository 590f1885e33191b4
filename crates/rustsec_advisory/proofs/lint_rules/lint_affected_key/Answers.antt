use Rattle.rustsec_advisory.proofs.Rows.{not-same}
use Rattle.rustsec_advisory.proofs.lint_rules.lint_affected_key.Goals as goal

pub returns-in_default-clause-ok : goal.returns-in_default-clause-ok
returns-in_default-clause-ok c = rw (not-same _ _ c.in_default.not-functions) (rw c.is_platform_key.ensures at c.add_key.ensures.ok)
