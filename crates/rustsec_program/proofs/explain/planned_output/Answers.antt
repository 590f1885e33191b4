use Rattle.std.proofs.Common.{inl, inr}
use Rattle.std.proofs.lemmas.Result.{err_from_is_err_and}
use Rattle.rustsec_program.proofs.Before.{lockfile-before, lockfile-refused-before}
use Rattle.rustsec_program.proofs.explain.planned_output.Goals as goal

pub returns-in_err-database-clause-err : goal.returns-in_err-database-clause-err
returns-in_err-database-clause-err g c =
    let p = err_from_is_err_and c.from_residual.result c.from_residual.ensures.1 in
    rw (p.1, p.2) (inl c.in_err-database.ensures.err)

pub returns-in_err-lockfile-clause-err : goal.returns-in_err-lockfile-clause-err
returns-in_err-lockfile-clause-err g c =
    let p = err_from_is_err_and c.from_residual-in_err-lockfile.result c.from_residual-in_err-lockfile.ensures.1 in
    rw (p.1, p.2) (inr (
      (c.in_ok-database.database, c.in_ok-database.ensures.ok),
      lockfile-refused-before _ _ c.open_with.ensures.same _ c.in_err-lockfile.field-0.0 c.in_err-lockfile.ensures.err,
    ))

pub returns-clause-ok : goal.returns-clause-ok
returns-clause-ok g c = (
  c.in_ok-database.database,
  (
    c.in_ok-database.ensures.ok,
    (c.in_ok-lockfile.lockfile.packages, (lockfile-before _ _ c.open_with.ensures.same _ _ c.in_ok-lockfile.ensures.ok, rw c.new-ground.ensures at c.in_ok-output.ensures.ok)),
  ),
)
