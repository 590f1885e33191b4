use Rattle.std.proofs.Common.{inl}
use Rattle.std.proofs.lemmas.Result.{IfErr-weaker, IfOk-weaker, err_from_is_err_and}
use Rattle.rustsec_values.proofs.Refusals.{refused_by}
use Rattle.rustsec_files.proofs.Same.{listed-fails, listed-found}
use Rattle.rustsec_files.proofs.listing.source_files.Goals as goal

pub returns-in_err-paths-clause-err : goal.returns-in_err-paths-clause-err
returns-in_err-paths-clause-err g c =
    let p = err_from_is_err_and c.from_residual.result c.from_residual.ensures.1 in
    rw (p.1, p.2) (refused_by _ c.in_err-paths.field-0.0 (λ f. inl f) c.in_err-paths.ensures.err)

pub returns-clause-ok : goal.returns-clause-ok
returns-clause-ok g c =
    IfOk-weaker c.files_at.result _ _
    (λ files h. listed-found _ _ c.args.root.now c.in_ok-paths.paths files c.source_paths.ensures.same c.in_ok-paths.ensures.ok h) c.files_at.ensures.ok

pub returns-clause-err : goal.returns-clause-err
returns-clause-err g c =
    IfErr-weaker c.files_at.result _ _
    (λ e h. refused_by _ e (listed-fails _ _ c.args.root.now c.in_ok-paths.paths c.source_paths.ensures.same c.in_ok-paths.ensures.ok) h)
    c.files_at.ensures.err
