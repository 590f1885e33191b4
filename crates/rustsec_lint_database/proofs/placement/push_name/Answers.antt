use Rattle.std.proofs.Common.{◌∙◌, ◌++◌, ap, sym}
use Rattle.std.proofs.lemmas.Result.{on_ok_weaker}
use Rattle.rustsec_lint_database.specs.declared.remark.RemarkKind.TheVariants as kind
use Rattle.rustsec_lint_database.proofs.Said.{one-said}
use Rattle.rustsec_lint_database.proofs.placement.push_name.Goals as goal

pub returns : goal.returns
returns c =
    let text = c.in_ok-text.ensures in
    rw (← c.as_str-id.ensures.value)
    (on_ok_weaker c.push_remark.result
    (λ e. e ∙ ap (λ xs. c.args.remarks.now ++ xs) (one-said _ kind.Misplaced _ _ (sym c.is_named_after.ensures ∙ c.if-is_named_after.false) text))
    c.push_remark.ensures)
