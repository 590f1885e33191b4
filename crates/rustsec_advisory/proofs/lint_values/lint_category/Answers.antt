use Rattle.rustsec_advisory.proofs.lint_values.lint_category.Goals as goal

pub returns-clause-ok : goal.returns-clause-ok
returns-clause-ok c = rw (c.is_other_category-test.ensures, c.name.ensures.value) at c.add_if.ensures.ok
