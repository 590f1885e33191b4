use Rattle.std.proofs.Common.{◌≡◌, inl, inr, subst}
use Rattle.std.proofs.lemmas.Result.{IfErr-weaker, IfOk-weaker, err_from_is_err_and}
use Rattle.std.specs.Prelude.{IfErr, IfOk}
use Rattle.rustsec_lock.specs.Lockfile.{IsLockfileRefusal}
use Rattle.rustsec_program.specs.Locked.{IsLockedAt}
use Rattle.rustsec_program.proofs.Before.{open-refused-before}
use Rattle.rustsec_program.proofs.Kept.{checked-by-kept, lockfile-refused, others-refused, refused-by-kept}
use Rattle.rustsec_program.proofs.check.planned_output.Goals as goal

pub returns-in_err-kept-clause-err : goal.returns-in_err-kept-clause-err
returns-in_err-kept-clause-err g c =
    let p = err_from_is_err_and c.from_residual.result c.from_residual.ensures.1 in
    rw (p.1, p.2) (inl (open-refused-before _ _ c.locked_at-read.ensures.same _ c.in_err-kept.field-0.0 c.in_err-kept.ensures.err))

pub returns-in_err-locked-clause-err : goal.returns-in_err-locked-clause-err
returns-in_err-locked-clause-err g c =
    let (packages, (opened, same)) = c.in_ok-kept.ensures.ok in
    let p = err_from_is_err_and c.from_residual-in_err-locked.result c.from_residual-in_err-locked.ensures.1 in
    rw (p.1, p.2) (inr (lockfile-refused _ _ c.locked_at-read.ensures.same _ _ c.args.plan.now packages c.in_ok-kept.kept c.in_err-locked.field-0.0 opened
    (subst (λ r. IfErr r (IsLockfileRefusal (g.F.Folders.allowed c.args.folders.now) c.args.paths.lock.now)) c.in_err-locked.was
    c.locked_at-read.ensures.err)))

pub returns-in_err-loaded-clause-err : goal.returns-in_err-loaded-clause-err
returns-in_err-loaded-clause-err g c =
    let (packages, (opened, same)) = c.in_ok-kept.ensures.ok in
    let locked = subst (λ r. IfOk r (IsLockedAt (g.F.Folders.allowed c.args.folders.now) c.args.paths.lock.now)) c.in_ok-locked.was c.locked_at-read.ensures.ok in
    let p = err_from_is_err_and c.from_residual-in_err-loaded.result c.from_residual-in_err-loaded.ensures.1 in
    rw (p.1, p.2) (inr (others-refused _ _ _ c.locked_at-read.ensures.same c.kept_for.ensures.same _ _ c.args.plan.now c.in_ok-locked.locked packages
    c.in_ok-kept.kept _ c.places_of.ensures c.in_err-loaded.field-0.0 opened locked c.in_err-loaded.ensures.err))

pub returns-clause-ok : goal.returns-clause-ok
returns-clause-ok g c =
    let (packages, (opened, same)) = c.in_ok-kept.ensures.ok in
    let locked = subst (λ r. IfOk r (IsLockedAt (g.F.Folders.allowed c.args.folders.now) c.args.paths.lock.now)) c.in_ok-locked.was c.locked_at-read.ensures.ok in
    let is = subst (λ r. IfOk r (λ l. packages ≡ l.packages)) c.in_ok-locked.was same in
    let output = rw c.form_of.ensures at c.kept_output.ensures.ok in
    IfOk-weaker c.kept_output.result _ _
    (λ o h. checked-by-kept _ _ _ c.locked_at-read.ensures.same c.kept_for.ensures.same _ _ c.args.plan.now c.in_ok-locked.locked packages c.in_ok-kept.kept
    _ c.places_of.ensures _ c.in_ok-loaded.loaded o opened is locked
    (c.in_ok-loaded.ensures.locked, (c.in_ok-loaded.ensures.baseline, c.in_ok-loaded.ensures.yanked)) h) output

pub returns-clause-err : goal.returns-clause-err
returns-clause-err g c =
    let (packages, (opened, same)) = c.in_ok-kept.ensures.ok in
    let locked = subst (λ r. IfOk r (IsLockedAt (g.F.Folders.allowed c.args.folders.now) c.args.paths.lock.now)) c.in_ok-locked.was c.locked_at-read.ensures.ok in
    let is = subst (λ r. IfOk r (λ l. packages ≡ l.packages)) c.in_ok-locked.was same in
    IfErr-weaker c.kept_output.result _ _
    (λ e h. inr (refused-by-kept _ _ _ c.locked_at-read.ensures.same c.kept_for.ensures.same _ _ c.args.plan.now c.in_ok-locked.locked packages c.in_ok-kept.kept
    _ c.places_of.ensures c.in_ok-loaded.loaded e opened is locked
    (c.in_ok-loaded.ensures.locked, (c.in_ok-loaded.ensures.baseline, c.in_ok-loaded.ensures.yanked)) h)) c.kept_output.ensures.err
