use Rattle.std.proofs.Common.{◌≡◌, ◌∙◌, Some, ap, subst}
use Rattle.std.specs.Prelude.{Bool}
use Rattle.std.proofs.lemmas.Result.{IfOk-weaker}
use Rattle.rustsec_files.specs.Paths.{is_draft}
use Rattle.rustsec_advisory.specs.Lints.{Lints}
use Rattle.rustsec_lint_database.specs.Files.{linted}
use Rattle.rustsec_lint_database.proofs.file.lint_source.Goals as goal

pub returns-in-Ok-clause-ok : goal.returns-in-Ok-clause-ok
returns-in-Ok-clause-ok c =
    let same : c.of-file.result.path.now ≡ c.args.path.now = c.of-file.ensures in
    let advisory = c.in-Ok.linter.advisory in
    let errors = c.in-Ok.linter.errors in
    let lints = subst (λ (d : Bool). Lints c.args.text.now (Some d) advisory errors) (c.is_draft.ensures ∙ ap is_draft same) c.in-Ok.ensures.ok in
    IfOk-weaker c.accepted.result _ _ (λ r h. linted advisory errors lints (rw same at h)) c.accepted.ensures
