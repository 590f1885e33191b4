use Rattle.rustsec_advisory.proofs.lint_values.lint_kind.Goals as goal

pub returns-clause-ok : goal.returns-clause-ok
returns-clause-ok c = rw (c.is_other-test.ensures) at c.add_if.ensures.ok
