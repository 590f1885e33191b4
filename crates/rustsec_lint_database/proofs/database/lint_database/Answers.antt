use Rattle.rustsec_lint_database.proofs.Firsts.{entries-found}
use Rattle.rustsec_lint_database.proofs.database.lint_database.Goals as goal

pub returns-clause-ok : goal.returns-clause-ok
returns-clause-ok g c =
    entries-found _ _ c.args.root.now c.in_ok-paths.paths c.as_slice.result.now c.in_ok-entries.entries c.source_paths.ensures.same
    c.in_ok-paths.ensures.ok c.as_slice.ensures c.in_ok-entries.ensures.ok
