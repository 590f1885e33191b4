use Rattle.std.proofs.lemmas.Result.{err_from_is_err_and}
use Rattle.rustsec_osv.proofs.EventObjects.{exported-objects}
use Rattle.rustsec_osv.proofs.ExportRoundTrip.{exported-read}
use Rattle.rustsec_osv.proofs.Exported.{exported, exported-valid, range-refused, refused}
use Rattle.rustsec_osv.proofs.document.OsvAdvisory.from_rustsec.Goals as goal

pub returns-clause-ok : goal.returns-clause-ok
returns-clause-ok c =
    exported c.args.advisory c.args.modified.now c.in_ok-range.range c.document_with.result c.into_parts-metadata.result c.into_parts-metadata.ensures
    c.in_ok-range.ensures.ok c.document_with.ensures.ok

pub returns-clause-err : goal.returns-clause-err
returns-clause-err c =
    refused c.args.advisory c.in_ok-range.range c.document_with.result c.into_parts-metadata.result c.into_parts-metadata.ensures
    c.in_ok-range.ensures.ok c.document_with.ensures.err

pub returns-clause-valid : goal.returns-clause-valid
returns-clause-valid c =
    exported-valid c.args.modified.now c.in_ok-range.range c.document_with.result c.into_parts-metadata.result c.in_ok-range.ensures.valid
    c.document_with.ensures.ok

pub returns-clause-objects : goal.returns-clause-objects
returns-clause-objects c = exported-objects c.document_with.result (returns-clause-valid c)

pub returns-clause-again : goal.returns-clause-again
returns-clause-again c = exported-read c.args.advisory c.args.modified.now c.document_with.result (returns-clause-ok c) (returns-clause-valid c) c.document_with.ensures.again

pub returns-in_err-range-clause-err : goal.returns-in_err-range-clause-err
returns-in_err-range-clause-err c =
    let p = err_from_is_err_and c.from_residual.result c.from_residual.ensures.1 in
    rw (p.1, p.2) (range-refused c.args.advisory c.in_err-range.field-0.0 c.into_parts-metadata.result c.into_parts-metadata.ensures c.in_err-range.ensures.err)
