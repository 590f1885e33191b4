use Rattle.std.proofs.Common.{inl, refl}
use Rattle.std.proofs.lemmas.Result.{err_from_is_err_and}
use Rattle.rustsec_values.proofs.Refusals.{refused_by}
use Rattle.rustsec_database.proofs.KeptFiles.{kept-opened, kept-weaker}
use Rattle.rustsec_database.proofs.Opening.{open-refused, refused-weaker, seen-same}
use Rattle.rustsec_database.proofs.kept.KeptDatabase.open_with.Goals as goal

pub returns-in_err-paths-clause-opened : goal.returns-in_err-paths-clause-opened
returns-in_err-paths-clause-opened g c =
    let p = err_from_is_err_and c.from_residual.result c.from_residual.ensures.1 in
    rw (p.1, p.2) (inl (refused_by _ c.in_err-paths.field-0.0 (λ f. inl f) c.in_err-paths.ensures.listed))

pub returns-in_err-keeping-clause-err : goal.returns-in_err-keeping-clause-err
returns-in_err-keeping-clause-err g c =
    let p = err_from_is_err_and c.from_residual-in_err-keeping.result c.from_residual-in_err-keeping.ensures.1 in
    rw (p.1, p.2) (refused-weaker g.F.Folders.listed g.F.Folders.opened (g.F.Folders.allowed c.args.folders.now) c.args.root.now c.in_err-keeping.field-0.0
    (open-refused _ _ c.args.root.now c.in_ok-paths.paths c.in_ok-paths.paths c.in_err-keeping.field-0.0
    (seen-same g.F.Folders.listed g.F.Folders.opened _ _ c.source_paths.ensures.same) c.in_ok-paths.ensures.listed refl c.in_err-keeping.ensures.err))

pub returns-in_err-keeping-clause-opened : goal.returns-in_err-keeping-clause-opened
returns-in_err-keeping-clause-opened g c =
    let p = err_from_is_err_and c.from_residual-in_err-keeping.result c.from_residual-in_err-keeping.ensures.1 in
    rw (p.1, p.2) (open-refused _ _ c.args.root.now c.in_ok-paths.paths c.in_ok-paths.paths c.in_err-keeping.field-0.0
    (seen-same g.F.Folders.listed g.F.Folders.opened _ _ c.source_paths.ensures.same) c.in_ok-paths.ensures.listed refl c.in_err-keeping.ensures.err)

pub returns-clause-ok : goal.returns-clause-ok
returns-clause-ok g c =
    let test = g.T.Predicate.holds c.args.test.now in
    rw c.in_ok-kept.ensures.ok (kept-weaker g.F.Folders.listed g.F.Folders.opened test (g.F.Folders.allowed c.args.folders.now) c.args.root.now c.in_ok-keeping.keeping
    (kept-opened test _ _ c.args.root.now c.in_ok-paths.paths c.in_ok-paths.paths c.in_ok-keeping.keeping
    (seen-same g.F.Folders.listed g.F.Folders.opened _ _ c.source_paths.ensures.same) c.in_ok-paths.ensures.listed refl c.in_ok-keeping.ensures.ok))

pub returns-clause-opened : goal.returns-clause-opened
returns-clause-opened g c =
    rw c.in_ok-kept.ensures.ok (kept-opened (g.T.Predicate.holds c.args.test.now) _ _ c.args.root.now c.in_ok-paths.paths c.in_ok-paths.paths c.in_ok-keeping.keeping
    (seen-same g.F.Folders.listed g.F.Folders.opened _ _ c.source_paths.ensures.same) c.in_ok-paths.ensures.listed refl c.in_ok-keeping.ensures.ok)
