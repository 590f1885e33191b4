use Rattle.std.proofs.Common.{◌≡◌, ◌∙◌, ap}
use Rattle.rustsec_osv.specs.References.{package_page}
use Rattle.rustsec_osv.proofs.export.references.package_page.Goals as goal

pub returns-clause-ok : goal.returns-clause-ok
returns-clause-ok c =
    let text : c.deref.result.now ≡ package_page c.args.name.now = c.deref.ensures ∙ c.in_ok-text.ensures.ok ∙ ap package_page c.as_str-name.ensures.text in
    rw text at c.from_str.ensures.ok

pub returns-clause-err : goal.returns-clause-err
returns-clause-err c =
    let text : c.deref.result.now ≡ package_page c.args.name.now = c.deref.ensures ∙ c.in_ok-text.ensures.ok ∙ ap package_page c.as_str-name.ensures.text in
    rw text at c.from_str.ensures.err
