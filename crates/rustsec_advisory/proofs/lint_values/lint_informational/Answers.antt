use Rattle.rustsec_advisory.proofs.lint_values.lint_informational.Goals as goal

pub returns-clause-ok : goal.returns-clause-ok
returns-clause-ok c = rw (c.in-Some.is, ← c.is_other.ensures, ← c.as_str.ensures.value) c.add_if.ensures.ok
