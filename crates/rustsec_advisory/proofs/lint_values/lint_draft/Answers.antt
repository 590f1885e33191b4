use Rattle.rustsec_advisory.proofs.lint_values.lint_draft.Goals as goal

pub returns-clause-ok : goal.returns-clause-ok
returns-clause-ok c = rw (c.differs-test.ensures, c.is_placeholder.ensures) at c.add_if.ensures.ok
