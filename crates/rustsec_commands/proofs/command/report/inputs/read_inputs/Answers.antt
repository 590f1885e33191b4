use Rattle.std.proofs.Common.{◌≡◌, inl, subst}
use Rattle.std.proofs.lemmas.Result.{err_from_is_err_and}
use Rattle.std.specs.Prelude.{IfErr, IfOk}
use Rattle.rustsec_lock.specs.Lockfile.{IsLockfileAt, IsLockfileRefusal}
use Rattle.rustsec_database.specs.Kept.{touches_any}
use Rattle.rustsec_commands.proofs.lemmas.command.Refused.{lockfile-refused, read-from, refused-before}
use Rattle.rustsec_commands.proofs.command.report.inputs.read_inputs.Goals as goal

pub returns-clause-ok : goal.returns-clause-ok
returns-clause-ok g c =
    let (read, (opened, same)) = c.in_ok-kept.ensures.ok in
    read-from _ _ c.args.paths.root.now c.args.paths.lock.now read c.in_ok-lockfile.lockfile.packages c.in_ok-kept.kept c.into_database-database.result
    c.load_with-read.ensures.same opened c.into_database-database.ensures
    (subst (λ r. IfOk r (λ l. read ≡ l.packages)) c.in_ok-lockfile.was same)
    (subst (λ r. IfOk r (λ l. IsLockfileAt (g.F.Folders.allowed c.args.folders.now) c.args.paths.lock.now l.packages)) c.in_ok-lockfile.was
    c.load_with-read.ensures.ok)

pub returns-in_err-kept-clause-err : goal.returns-in_err-kept-clause-err
returns-in_err-kept-clause-err g c =
    let p = err_from_is_err_and c.from_residual.result c.from_residual.ensures.1 in
    rw (p.1, p.2) (inl (refused-before _ _ c.args.paths.root.now c.in_err-kept.field-0.0 c.load_with-read.ensures.same c.in_err-kept.ensures.err))

pub returns-in_err-lockfile-clause-err : goal.returns-in_err-lockfile-clause-err
returns-in_err-lockfile-clause-err g c =
    let (read, (opened, same)) = c.in_ok-kept.ensures.ok in
    let p = err_from_is_err_and c.from_residual-in_err-lockfile.result c.from_residual-in_err-lockfile.ensures.1 in
    rw (p.1, p.2) (lockfile-refused _ _ c.args.paths.root.now c.args.paths.lock.now (touches_any read) c.in_ok-kept.kept c.in_err-lockfile.field-0.0
    c.load_with-read.ensures.same opened
    (subst (λ r. IfErr r (IsLockfileRefusal (g.F.Folders.allowed c.args.folders.now) c.args.paths.lock.now)) c.in_err-lockfile.was
    c.load_with-read.ensures.err))
