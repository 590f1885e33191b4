use Rattle.std.proofs.Common.{◌∙◌, ◌++◌, ◌∷◌, [], ap, sym}
use Rattle.std.proofs.lemmas.Result.{on_ok_weaker}
use Rattle.rustsec_lint_database.specs.Remarks.{remark}
use Rattle.rustsec_lint_database.specs.declared.remark.RemarkKind.TheVariants as kind
use Rattle.rustsec_lint_database.proofs.Said.{no-collection, one-said}
use Rattle.rustsec_lint_database.proofs.placement.push_collection.Goals as goal

pub returns-in_default : goal.returns-in_default
returns-in_default c =
    let text = c.in_ok-from_str.ensures.ok in
    on_ok_weaker c.push_remark.result
    (λ e. e ∙ ap (λ xs. c.args.remarks.now ++ xs)
    (no-collection c.args.named c.args.at _ c.in_default.is (ap (λ t. remark kind.Misplaced t ∷ []) text)))
    c.push_remark.ensures

pub returns : goal.returns
returns c =
    let text = c.in_ok-text.ensures in
    rw (c.in-Some.is, ← c.as_str-name.ensures.value)
    (on_ok_weaker c.push_remark-2.result
    (λ e. e ∙ ap (λ xs. c.args.remarks.now ++ xs) (one-said _ kind.Misplaced _ _ (sym c.agrees.ensures ∙ c.if-agrees.false) text))
    c.push_remark-2.ensures)
