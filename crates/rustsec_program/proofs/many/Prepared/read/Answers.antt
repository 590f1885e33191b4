use Rattle.std.proofs.Common.{inl, inr}
use Rattle.std.proofs.lemmas.Result.{err_from_is_err_and}
use Rattle.rustsec_program.proofs.Before.{open-refused-before, opened-before}
use Rattle.rustsec_program.proofs.Grounds.{is-list, none-listed, paths-in}
use Rattle.rustsec_program.proofs.many.Prepared.read.Goals as goal

pub returns-in_err-paths-clause-err : goal.returns-in_err-paths-clause-err
returns-in_err-paths-clause-err g c =
    let p = err_from_is_err_and c.from_residual-in_err-paths.result c.from_residual-in_err-paths.ensures.1 in
    rw (p.1, p.2) (inr (inl (none-listed c.args.options.now _ _ c.in_ok-text.ensures.ok.0 c.in_ok-text.ensures.ok.1 _ c.in_err-paths.ensures.err)))

pub returns-in_err-plan-clause-err : goal.returns-in_err-plan-clause-err
returns-in_err-plan-clause-err g c =
    let p = err_from_is_err_and c.from_residual-in_err-plan.result c.from_residual-in_err-plan.ensures.1 in
    let list = is-list c.args.options.now _ _ c.in_ok-text.ensures.ok.0 c.in_ok-text.ensures.ok.1 c.in_ok-paths.ensures.ok.1 in
    rw (p.1, p.2) (inr (inr (list, inl c.in_err-plan.ensures.err)))

pub returns-in_err-database-clause-err : goal.returns-in_err-database-clause-err
returns-in_err-database-clause-err g c =
    let p = err_from_is_err_and c.from_residual-in_err-database.result c.from_residual-in_err-database.ensures.1 in
    let list = is-list c.args.options.now _ _ c.in_ok-text.ensures.ok.0 c.in_ok-text.ensures.ok.1 c.in_ok-paths.ensures.ok.1 in
    rw (p.1, p.2) (inr (inr (list, inr ((c.in_ok-plan.plan, c.in_ok-plan.ensures.ok), open-refused-before _ _ c.read.ensures.same _ _ c.in_err-database.ensures.err))))

pub returns-clause-ok : goal.returns-clause-ok
returns-clause-ok g c = record {
  ground = (c.in_ok-plan.ensures.ok, opened-before _ _ c.read.ensures.same _ _ c.in_ok-database.ensures.ok);
  is_list = is-list c.args.options.now _ _ c.in_ok-text.ensures.ok.0 c.in_ok-text.ensures.ok.1 c.in_ok-paths.ensures.ok.1;
  paths = paths-in c.args.options.now _ _ _ c.in_ok-paths.ensures.ok.0 c.in_ok-text.ensures.ok.0;
}
