use Rattle.std.proofs.Common.{◌∙◌, ◌++◌, ap, sym}
use Rattle.std.proofs.lemmas.Result.{on_ok_weaker}
use Rattle.rustsec_lint_database.specs.declared.remark.RemarkKind.TheVariants as kind
use Rattle.rustsec_lint_database.proofs.Said.{one-said}
use Rattle.rustsec_lint_database.proofs.placement.push_folder.Goals as goal

pub returns : goal.returns
returns c =
    let text = c.in_ok-text.ensures in
    rw (← c.as_str-package.ensures.text)
    (on_ok_weaker c.push_remark.result
    (λ e. e ∙ ap (λ xs. c.args.remarks.now ++ xs) (one-said _ kind.Misplaced _ _ (sym c.is_in_folder.ensures ∙ c.if-is_in_folder.false) text))
    c.push_remark.ensures)
