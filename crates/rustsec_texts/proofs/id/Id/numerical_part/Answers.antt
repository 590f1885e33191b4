use Rattle.std.proofs.Common.{◌≡◌, ◌∙◌, false, sym, subst}
use Rattle.rustsec_texts.specs.Ids.{is_placeholder}
use Rattle.rustsec_texts.specs.Numbers.{last_part}
use Rattle.rustsec_texts.proofs.Dashes.{last-alone, last-after, no-dash}
use Rattle.rustsec_texts.proofs.id.Id.numerical_part.Goals as goal

pub returns-in-Some : goal.returns-in-Some
returns-in-Some c =
    let real : is_placeholder c.args.self.now.text ≡ false = sym c.is_placeholder.ensures ∙ c.if-is_placeholder.false in
    let found = c.in-Some.ensures.cases in
    let last = last-after _ found.0 found.1 found.2.0 found.2.1 in
    rw (real, ← c.as_str.ensures.value, last, ← found.4) c.number.ensures

pub returns-in-None : goal.returns-in-None
returns-in-None c =
    let real : is_placeholder c.args.self.now.text ≡ false = sym c.is_placeholder.ensures ∙ c.if-is_placeholder.false in
    let whole : last_part c.args.self.now.text ≡ c.args.self.now.text =
    subst (λ t. last_part t ≡ t) c.as_str.ensures.value (last-alone c.as_str.result.now (no-dash _ c.in-None.ensures.cases)) in
    rw (real, whole, ← c.as_str-in-None.ensures.value) c.number-in-None.ensures
