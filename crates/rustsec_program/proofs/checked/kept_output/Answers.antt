use Rattle.std.proofs.Common.{◌∙◌, inr, sym}
use Rattle.std.proofs.lemmas.Result.{IfErr-weaker, IfOk-weaker, err_from_is_err_and}
use Rattle.rustsec_values.proofs.Refusals.{refusal}
use Rattle.rustsec_program.proofs.Kept.{kept-checked, kept-empty}
use Rattle.rustsec_program.proofs.checked.kept_output.Goals as goal

pub returns-then-is_empty-clause-err : goal.returns-then-is_empty-clause-err
returns-then-is_empty-clause-err c = λ all kept.
    kept-empty c.args.plan.now c.of_kept-dated.result c.args.kept.now c.args.loaded.now c.of_kept-dated.ensures all kept c.empty_error.result
    (refusal _ c.empty_error.result (sym c.is_empty.ensures ∙ c.if-is_empty.true) c.empty_error.ensures)

pub returns-in_err-found-clause-err : goal.returns-in_err-found-clause-err
returns-in_err-found-clause-err c =
    let p = err_from_is_err_and c.from_residual.result c.from_residual.ensures.1 in
    rw (p.1, p.2) (λ all kept. inr c.in_err-found.ensures.err)

pub returns-clause-ok : goal.returns-clause-ok
returns-clause-ok c =
    IfOk-weaker c.check_output.result _ _
    (λ o h. λ all kept. kept-checked c.args.plan.now c.of_kept-dated.result c.args.kept.now c.args.loaded.now c.of_kept-dated.ensures all kept _
    c.in_ok-found.found o (sym c.is_empty.ensures ∙ c.if-is_empty.false) (c.in_ok-found.ensures.ok all kept) h) c.check_output.ensures.ok

pub returns-clause-err : goal.returns-clause-err
returns-clause-err c = IfErr-weaker c.check_output.result _ _ (λ e h. λ all kept. inr h) c.check_output.ensures.err
