use Rattle.std.proofs.lemmas.Result.{err_from_is_err_and}
use Rattle.rustsec_values.proofs.Refusals.{refused_by}
use Rattle.rustsec_advisory.proofs.Documents.{no-affected, no-metadata, no-versions, no-versions-table}
use Rattle.rustsec_advisory.proofs.advisory.of_document.Goals as goal

pub returns-in_err-metadata-clause-err : goal.returns-in_err-metadata-clause-err
returns-in_err-metadata-clause-err c =
    let p = err_from_is_err_and c.from_residual-in_err-metadata.result c.from_residual-in_err-metadata.ensures.1 in
    rw (p.1, p.2) (refused_by _ c.in_err-metadata.field-0.0 (no-metadata _ _ _ _ c.in_ok-table.ensures.ok) c.in_err-metadata.ensures.err)

pub returns-in_err-table-2-clause-err : goal.returns-in_err-table-2-clause-err
returns-in_err-table-2-clause-err c =
    let p = err_from_is_err_and c.from_residual-in_err-table-2.result c.from_residual-in_err-table-2.ensures.1 in
    rw (p.1, p.2) (refused_by _ c.in_err-table-2.field-0.0 (no-versions-table _ _ _) c.in_err-table-2.ensures.err)

pub returns-in_err-versions-clause-err : goal.returns-in_err-versions-clause-err
returns-in_err-versions-clause-err c =
    let p = err_from_is_err_and c.from_residual-in_err-versions.result c.from_residual-in_err-versions.ensures.1 in
    rw (p.1, p.2) (refused_by _ c.in_err-versions.field-0.0 (no-versions _ _ _ _ c.in_ok-table-2.ensures.ok) c.in_err-versions.ensures.err)

pub returns-in_err-affected-clause-err : goal.returns-in_err-affected-clause-err
returns-in_err-affected-clause-err c =
    let p = err_from_is_err_and c.from_residual-in_err-affected.result c.from_residual-in_err-affected.ensures.1 in
    rw (p.1, p.2) (refused_by _ c.in_err-affected.field-0.0 (no-affected _ _ _) c.in_err-affected.ensures.err)
