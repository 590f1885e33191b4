use Rattle.std.proofs.lemmas.Result.{IfErr-weaker, err_from_is_err_and}
use Rattle.rustsec_program.specs.Plan.{undated, unruled}
use Rattle.rustsec_program.proofs.plan.Plan.read.Goals as goal

pub returns-in_err-policy-clause-err : goal.returns-in_err-policy-clause-err
returns-in_err-policy-clause-err g c =
    let p = err_from_is_err_and c.from_residual-in_err-policy.result c.from_residual-in_err-policy.ensures.1 in
    rw (p.1, p.2) (unruled c.in_ok-request.request c.in_ok-request.ensures.ok (rw c.in_ok-path.ensures at c.in_err-policy.ensures.err))

pub returns-clause-err : goal.returns-clause-err
returns-clause-err g c =
    IfErr-weaker c.plan_of.result _ _
    (λ e h. undated c.in_ok-request.request c.in_ok-policy.policy c.in_ok-request.ensures.ok (rw c.in_ok-path.ensures at c.in_ok-policy.ensures.ok) h)
    c.plan_of.ensures.err
