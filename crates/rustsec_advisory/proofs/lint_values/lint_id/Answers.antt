use Rattle.std.proofs.lemmas.Result.{on_ok_weaker}
use Rattle.rustsec_advisory.specs.LintErrors.{draft_row, kind_row, year_row}
use Rattle.rustsec_advisory.proofs.Rows.{three}
use Rattle.rustsec_advisory.proofs.lint_values.lint_id.Goals as goal

pub returns-clause-ok : goal.returns-clause-ok
returns-clause-ok c =
    let draft = draft_row c.args.draft c.args.metadata.now c.args.printed.now in
    let kind = kind_row c.args.metadata.now c.args.printed.now in
    let year = year_row c.args.metadata.now c.args.printed.now in
    on_ok_weaker c.lint_year.result
    (λ last. three c.args.errors.now c.lint_draft.new.errors c.lint_kind.new.errors c.lint_year.new.errors draft kind year c.in_ok-lint_draft.ensures.ok c.in_ok-lint_kind.ensures.ok last)
    c.lint_year.ensures.ok
