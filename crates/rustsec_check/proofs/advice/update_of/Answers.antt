use Rattle.std.proofs.Common.{◌≡◌, rules, subst, sym, true}
use Rattle.rustsec_check.specs.Updates.{IsUpdateBy, UpdateValue, is_same_with}
use Rattle.rustsec_check.proofs.Advised.{advised}
use Rattle.rustsec_check.proofs.advice.update_of.Goals as goal

pub returns-then-is_same_with-clause-ok : goal.returns-then-is_same_with-clause-ok
returns-then-is_same_with-clause-ok c = λ valid.
    let p = c.args.«package».now in
    let a = c.args.advisory.now in
    let advice = c.args.advice.now in
    let same : is_same_with advice a ≡ true = search rules in
    let copied : c.in_ok-copy.field-0 ≡ advice.update = search rules in
    subst (λ (u : UpdateValue). IsUpdateBy advice.counted.ids advice.counted.others p a u) (sym copied) (advised p a advice (c.requires valid) same)
