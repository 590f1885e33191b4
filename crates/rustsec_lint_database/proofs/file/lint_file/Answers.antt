use Rattle.std.proofs.Common.{ℕ, List, subst}
use Rattle.rustsec_lint_database.specs.Files.{IsLintOf, of_text}
use Rattle.rustsec_lint_database.proofs.file.lint_file.Goals as goal

pub returns-in_ok-linted-in-Ok-clause-ok : goal.returns-in_ok-linted-in-Ok-clause-ok
returns-in_ok-linted-in-Ok-clause-ok g c =
    of_text c.in-Ok.text c.in-Ok.ensures.ok
    (subst (λ (t : List ℕ). IsLintOf c.args.path.now t c.in_ok-linted-in-Ok.linted.lint) c.as_str.ensures c.in_ok-linted-in-Ok.ensures.ok)
