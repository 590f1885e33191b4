use Rattle.std.proofs.Common.{inl, inr}
use Rattle.std.proofs.lemmas.Result.{IfErr-weaker, IfOk-weaker, err_from_is_err_and}
use Rattle.rustsec_program.proofs.checked.lockfile_output.Goals as goal

pub returns-in_err-loaded-clause-err : goal.returns-in_err-loaded-clause-err
returns-in_err-loaded-clause-err g c =
    let p = err_from_is_err_and c.from_residual.result c.from_residual.ensures.1 in
    let refused = rw (c.places_of.ensures, c.plan.ensures) at c.in_err-loaded.ensures.err in
    rw (p.1, p.2) (inl refused)

pub returns-clause-ok : goal.returns-clause-ok
returns-clause-ok g c =
    let loaded = rw (c.places_of.ensures, c.plan.ensures) at c.in_ok-loaded.ensures.ok in
    IfOk-weaker c.checked_output.result _ _ (λ o h. (c.in_ok-loaded.loaded, (loaded, h))) c.checked_output.ensures.ok

pub returns-clause-err : goal.returns-clause-err
returns-clause-err g c =
    let loaded = rw (c.places_of.ensures, c.plan.ensures) at c.in_ok-loaded.ensures.ok in
    IfErr-weaker c.checked_output.result _ _ (λ e h. inr (c.in_ok-loaded.loaded, (loaded, h))) c.checked_output.ensures.err
