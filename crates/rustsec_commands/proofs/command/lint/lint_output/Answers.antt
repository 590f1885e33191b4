use Rattle.std.proofs.lemmas.Result.{IfOk-weaker}
use Rattle.rustsec_advisory.proofs.LintRefusals.{no_advisory, no_text}
use Rattle.rustsec_commands.specs.command.Lint.{linted, refused}
use Rattle.rustsec_commands.proofs.command.lint.lint_output.Goals as goal

pub returns-in-Err-clause-ok : goal.returns-in-Err-clause-ok
returns-in-Err-clause-ok g c =
    let allowed = g.F.Folders.allowed c.args.folders.now in
    IfOk-weaker c.refusal_output.result _ _
    (λ o h. refused c.in-Err.error (no_text allowed c.args.path.now c.in-Err.error c.in-Err.ensures.err) h.0 h.1) c.refusal_output.ensures

pub returns-in-Ok-lint_string-clause-ok : goal.returns-in-Ok-lint_string-clause-ok
returns-in-Ok-lint_string-clause-ok g c =
    IfOk-weaker c.noted_output.result _ _ (λ o h. linted c.in-Ok-lint_string.linter.advisory c.in-Ok-lint_string.linter.errors
    (c.in-Ok.ensures.ok.0, (c.in-Ok.text, (c.in-Ok.ensures.ok.1, rw (c.as_str.ensures, c.is_draft.ensures, c.of.ensures) at c.in-Ok-lint_string.ensures.ok))) h) c.noted_output.ensures

pub returns-clause-ok : goal.returns-clause-ok
returns-clause-ok g c =
    let allowed = g.F.Folders.allowed c.args.folders.now in
    IfOk-weaker c.file_refusal_output.result _ _
    (λ o h. refused c.in-Err-lint_string.error
    (no_advisory allowed c.args.path.now c.in-Ok.text c.in-Err-lint_string.error c.in-Ok.ensures.ok.0 c.in-Ok.ensures.ok.1
    (rw c.as_str.ensures at c.in-Err-lint_string.ensures.err))
    h.0 h.1)
    c.file_refusal_output.ensures
