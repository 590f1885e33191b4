use Rattle.std.proofs.Common.{◌≡◌, ◌∙◌, List, ℕ, None, ap, lit<, map, sym}
use Rattle.std.proofs.lemmas.Iterator.{items_from_drains}
use Rattle.std.proofs.lemmas.Iterator.Splits.{YieldsList-from_str_split}
use denote.Ref.{Bor}
use Rattle.rustsec_lock.specs.Cvss.{base_of, metrics_of, parts_of}
use Rattle.rustsec_values.proofs.Refusals.{refusal}
use Rattle.rustsec_lock.proofs.CvssParts.{base_of_eight, base_of_other}
use Rattle.rustsec_lock.proofs.cvss.base.Goals as goal
use Rattle.rustsec_lock.proofs.cvss.base.Goals.{else-has_eight_parts, then-has_eight_parts+in_ok-parts+in_default}

pub returns-in-Some-clause-ok : goal.returns-in-Some-clause-ok
returns-in-Some-clause-ok c =
    let its = c.split.ensures in
    let whole = YieldsList-from_str_split 47 c.args.text.now (lit< tt) its.text its.has_more its.pattern in
    let ran = c.in_ok-parts.ensures.ran in
    let parts : map (λ p. p.now) c.deref.result.now ≡ parts_of c.args.text.now =
    ap (map (λ (p : Bor (List ℕ)). p.now)) (c.deref.ensures.value ∙ ran.2.0) ∙ items_from_drains ran.0 ran.1 whole in
    base_of_eight c.args.minor_version c.args.text.now (sym c.has_eight_parts.ensures ∙ c.if-has_eight_parts.true)
    ∙ (ap (metrics_of c.args.minor_version) (sym parts) ∙ sym c.in-Some.ensures.value)

pub returns-clause-err : goal.returns-clause-err
returns-clause-err c =
    let none : base_of c.args.minor_version c.args.text.now ≡ None = elim c.if-has_eight_parts.branch [
      | then-has_eight_parts+in_ok-parts+in_default w ↦
          let its = w.split.ensures in
          let whole = YieldsList-from_str_split 47 c.args.text.now (lit< tt) its.text its.has_more its.pattern in
          let ran = w.in_ok-parts.ensures.ran in
          let parts : map (λ p. p.now) w.deref.result.now ≡ parts_of c.args.text.now =
          ap (map (λ (p : Bor (List ℕ)). p.now)) (w.deref.ensures.value ∙ ran.2.0) ∙ items_from_drains ran.0 ran.1 whole in
          base_of_eight c.args.minor_version c.args.text.now (sym c.has_eight_parts.ensures ∙ w.if-has_eight_parts.true)
          ∙ (ap (metrics_of c.args.minor_version) (sym parts) ∙ (sym w.metrics.ensures.value ∙ w.in_default.is))
      | else-has_eight_parts w ↦
          base_of_other c.args.minor_version c.args.text.now (sym c.has_eight_parts.ensures ∙ w.if-has_eight_parts.false)
    ] in
    refusal _ c.text_error.result none c.text_error.ensures.kind
