use Rattle.std.proofs.Common.{inl}
use Rattle.std.proofs.lemmas.Result.{IfErr-weaker, IfOk-weaker, err_from_is_err_and}
use Rattle.rustsec_program.proofs.Grounds.{explained-by-plan, unexplained-by-plan}
use Rattle.rustsec_program.proofs.explain.options_output.Goals as goal

pub returns-in_err-plan-clause-err : goal.returns-in_err-plan-clause-err
returns-in_err-plan-clause-err g c =
    let p = err_from_is_err_and c.from_residual.result c.from_residual.ensures.1 in
    rw (p.1, p.2) (inl (inl c.in_err-plan.ensures.err))

pub returns-clause-ok : goal.returns-clause-ok
returns-clause-ok g c =
    IfOk-weaker c.planned_output.result _ _
    (λ o h. explained-by-plan _ _ c.read.ensures.same _ _ _ _ c.args.text.now o c.in_ok-plan.ensures.ok h)
    c.planned_output.ensures.ok

pub returns-clause-err : goal.returns-clause-err
returns-clause-err g c =
    IfErr-weaker c.planned_output.result _ _
    (λ e h. unexplained-by-plan _ _ c.read.ensures.same _ _ _ _ e c.in_ok-plan.ensures.ok h)
    c.planned_output.ensures.err
