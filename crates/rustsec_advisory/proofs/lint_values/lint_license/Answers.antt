use Rattle.rustsec_advisory.proofs.lint_values.lint_license.Goals as goal

pub returns-clause-ok : goal.returns-clause-ok
returns-clause-ok c = rw (c.is_other_license-test.ensures, c.spdx.ensures.value) at c.add_if.ensures.ok
