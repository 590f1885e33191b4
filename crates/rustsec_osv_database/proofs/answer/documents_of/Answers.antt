use Rattle.std.proofs.Common.{◌∙◌, Bor}
use Rattle.std.proofs.lemmas.Result.{err_from_is_err_and}
use Rattle.rustsec_advisory.specs.declared.advisory.Advisory.{Advisory}
use Rattle.rustsec_files.proofs.Lists.{contains-item}
use Rattle.rustsec_versions.proofs.lemmas.lists.Contained.{contains-map}
use Rattle.rustsec_values.proofs.Refusals.{refused_by}
use Rattle.rustsec_osv_database.proofs.Documents.{one-more-document}
use Rattle.rustsec_osv_database.proofs.answer.documents_of.Goals as goal

pub returns-in_err-own_document-clause-err : goal.returns-in_err-own_document-clause-err
returns-in_err-own_document-clause-err c =
    let has =
    contains-map (λ (a : Bor Advisory). a.now) c.args.advisories.now c.advisory-item.result
    (contains-item c.args.advisories.now c.loop-advisory.advisory-index c.advisory-item.result c.loop-advisory-test.true c.advisory-item.is) in
    let p = err_from_is_err_and c.from_residual.result c.from_residual.ensures.1 in
    rw (p.1, p.2) (refused_by _ c.in_err-own_document.field-0.0 (λ none. (c.advisory-item.result.now, (has, none))) c.in_err-own_document.ensures.err)

pub loop-advisory-preserved : goal.loop-advisory-preserved
loop-advisory-preserved c =
    one-more-document _ _ _ _ _ _ c.loop-advisory-test.true c.advisory-item.is c.loop-advisory.invariant c.in_ok-own_document.ensures.ok c.in_ok-push.ensures.ok
