use Rattle.rustsec_lint_database.proofs.database.lint_next.Goals as goal

pub returns-clause-ok : goal.returns-clause-ok
returns-clause-ok g c = (c.in_ok-linted.linted.lint, (c.in_ok-linted.ensures.ok, c.in_ok-add.ensures))
