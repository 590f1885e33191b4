use Rattle.std.proofs.Common.{◌≡◌, ◌∙◌, ap}
use Rattle.rustsec_osv.specs.References.{advisory_page}
use Rattle.rustsec_osv.proofs.export.references.advisory_page.Goals as goal

pub returns-clause-ok : goal.returns-clause-ok
returns-clause-ok c =
    let text : c.deref.result.now ≡ advisory_page c.args.id.now.text = c.deref.ensures ∙ c.in_ok-text.ensures.ok ∙ ap advisory_page c.as_str-id.ensures.value in
    rw text at c.from_str.ensures.ok

pub returns-clause-err : goal.returns-clause-err
returns-clause-err c =
    let text : c.deref.result.now ≡ advisory_page c.args.id.now.text = c.deref.ensures ∙ c.in_ok-text.ensures.ok ∙ ap advisory_page c.as_str-id.ensures.value in
    rw text at c.from_str.ensures.err
