use Rattle.std.proofs.Common.{◌≡◌, ◌∙◌, ◌∷◌, [], append-nil, false, sym, true}
use Rattle.std.proofs.lemmas.Result.{err_from_is_err_and}
use Rattle.rustsec_values.proofs.Refusals.{refused_by}
use Rattle.rustsec_osv.specs.Imports.{is_page}
use Rattle.rustsec_osv.proofs.Links.{linked-other, linked-page, linked-refused}
use Rattle.rustsec_osv.proofs.export.imports.add_id.Goals as goal
use Rattle.rustsec_osv.proofs.export.imports.add_id.Goals.{then-is_page+in_ok-id+in_ok-push, else-is_page}

pub returns-in_err-id-clause-err : goal.returns-in_err-id-clause-err
returns-in_err-id-clause-err c =
    let page : is_page c.args.reference.now.url ≡ true = rw c.as_str.ensures.value at (sym c.is_page.ensures ∙ c.if-is_page.true) in
    let p = err_from_is_err_and c.from_residual.result c.from_residual.ensures.1 in
    rw (p.1, p.2) (refused_by _ c.in_err-id.field-0.0 (λ none. linked-refused c.args.reference.now page none) c.in_err-id.ensures.err)

pub returns-clause-ok : goal.returns-clause-ok
returns-clause-ok c = elim c.if-is_page.branch [
  | then-is_page+in_ok-id+in_ok-push w ↦
      let page : is_page c.args.reference.now.url ≡ true = rw c.as_str.ensures.value at (sym c.is_page.ensures ∙ w.if-is_page.true) in
      (w.in_ok-id.id ∷ [], linked-page c.args.reference.now w.in_ok-id.id page w.in_ok-id.ensures.ok, w.ids-is ∙ w.in_ok-push.ensures.ok)
  | else-is_page w ↦
      let other : is_page c.args.reference.now.url ≡ false = rw c.as_str.ensures.value at (sym c.is_page.ensures ∙ w.if-is_page.false) in
      ([], linked-other c.args.reference.now other, w.ids-is ∙ sym (append-nil c.args.ids.now))
]
