use Rattle.std.proofs.Common.{◌∙◌, sym}
use Rattle.std.proofs.lemmas.Result.{IfErr-weaker, IfOk-weaker}
use Rattle.rustsec_program.proofs.Grounds.{first-before, lines-of-all, lines-of-first, refused-lines, writes-before}
use Rattle.rustsec_program.proofs.many.check_many.Goals as goal

pub returns-in-Ok-clause-ok : goal.returns-in-Ok-clause-ok
returns-in-Ok-clause-ok g c =
    let named = sym c.in_ok-options.ensures ∙ c.in-Some.is in
    IfOk-weaker c.write_all.result _ _
    (λ s h. lines-of-all _ _ _ _ _ c.in-Ok.prepared s _ _ named c.in-Ok.ensures.ok (writes-before _ _ c.read.ensures.same _ _ s _ _ h)) c.write_all.ensures.ok

pub returns-in-Ok-clause-err : goal.returns-in-Ok-clause-err
returns-in-Ok-clause-err g c =
    let named = sym c.in_ok-options.ensures ∙ c.in-Some.is in
    IfErr-weaker c.write_all.result _ _
    (λ e h other. lines-of-first _ _ _ _ _ c.in-Ok.prepared _ _ named c.in-Ok.ensures.ok (first-before _ _ c.read.ensures.same _ _ _ _ (h other)))
    c.write_all.ensures.err

pub returns-clause-ok : goal.returns-clause-ok
returns-clause-ok g c =
    let named = sym c.in_ok-options.ensures ∙ c.in-Some.is in
    IfOk-weaker c.write_refusal.result _ _ (λ s h. refused-lines _ _ _ _ _ c.in-Err.error s _ _ named c.in-Err.ensures.err h.0 h.1) c.write_refusal.ensures.ok
