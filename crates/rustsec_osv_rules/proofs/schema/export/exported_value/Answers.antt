use Rattle.std.proofs.Common.{inl, inr}
use Rattle.std.proofs.lemmas.Result.{IfErr-weaker, IfOk-weaker}
use Rattle.rustsec_osv_rules.proofs.evaluation.Ordered.{exported-ordered}
use Rattle.rustsec_osv_rules.proofs.schema.ExportedDocuments.{exported-kept, read-days}
use Rattle.rustsec_osv_rules.proofs.schema.export.exported_value.Goals as goal

pub returns-clause-ok : goal.returns-clause-ok
returns-clause-ok c =
    IfOk-weaker c.to_value.result _ _ (λ v e. (c.in_ok-document.document, (c.in_ok-document.ensures.ok, e))) c.to_value.ensures.ok

pub returns-clause-schema : goal.returns-clause-schema
returns-clause-schema c =
    IfOk-weaker c.to_value.result _ _
    (λ v e. exported-kept c.args.advisory c.args.modified.now v (c.in_ok-document.document, (c.in_ok-document.ensures.ok, e))) c.to_value.ensures.ok

pub returns-clause-parsed : goal.returns-clause-parsed
returns-clause-parsed c =
    IfOk-weaker c.to_value.result _ _
    (λ v e t h. exported-kept c.args.advisory c.args.modified.now v (c.in_ok-document.document, (c.in_ok-document.ensures.ok, e)) (read-days t c.args.advisory h))
    c.to_value.ensures.ok

pub returns-clause-ordered : goal.returns-clause-ordered
returns-clause-ordered c =
    let document = c.in_ok-document.document in
    let ordered = exported-ordered c.args.advisory c.args.modified.now document c.in_ok-document.ensures.ok in
    IfOk-weaker c.to_value.result _ _ (λ v e. (document, ordered, e)) c.to_value.ensures.ok

pub returns-clause-err : goal.returns-clause-err
returns-clause-err c = IfErr-weaker c.to_value.result _ _ (λ f memory. inl (inr memory)) c.to_value.ensures.err
