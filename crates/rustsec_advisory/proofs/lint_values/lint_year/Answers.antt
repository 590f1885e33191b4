use Rattle.rustsec_advisory.proofs.lint_values.lint_year.Goals as goal

pub returns-clause-ok : goal.returns-clause-ok
returns-clause-ok c = rw (c.names_another_year-test.ensures) at c.add_if.ensures.ok
