use Rattle.std.proofs.lemmas.Result.{err_from_is_err_and}
use Rattle.rustsec_values.proofs.Refusals.{refused_by}
use Rattle.rustsec_osv.proofs.Links.{linked-more, linked-nil, linked-stop}
use Rattle.rustsec_osv.proofs.export.imports.linked_ids.Goals as goal

pub loop-reference-init : goal.loop-reference-init
loop-reference-init c = rw c.new-ids.ensures linked-nil

pub loop-reference-preserved : goal.loop-reference-preserved
loop-reference-preserved c =
    let more = c.in_ok-add_id.ensures.ok in
    rw more.2 (linked-more _ _ c.reference-item.result _ more.0 c.loop-reference-test.true c.reference-item.is c.loop-reference.invariant more.1)

pub returns-in_err-add_id-clause-err : goal.returns-in_err-add_id-clause-err
returns-in_err-add_id-clause-err c =
    let p = err_from_is_err_and c.from_residual.result c.from_residual.ensures.1 in
    rw (p.1, p.2) (refused_by _ c.in_err-add_id.field-0.0
    (λ none. linked-stop _ c.loop-reference.reference-index c.reference-item.result c.loop-reference-test.true c.reference-item.is none)
    c.in_err-add_id.ensures.err)
