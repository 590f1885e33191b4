use Rattle.std.proofs.Common.{◌≡◌, [], ◌∷◌, inl, inr, ⊎_elim, sym, true}
use Rattle.std.specs.Prelude.{is_ok}
use Rattle.std.proofs.lemmas.List.{map-append}
use Rattle.rustsec_versions.specs.Views.{comparators_of}
use Rattle.rustsec_toml.specs.Fields.{text}
use Rattle.rustsec_advisory.specs.Requirements.{requirement_of}
use Rattle.rustsec_toml.proofs.Arrays.{items_more, items_start, items_stop}
use Rattle.rustsec_advisory.proofs.requirements.requirements_in.Goals as goal

pub loop-value-init : goal.loop-value-init
loop-value-init c = rw c.in_ok-read.ensures.items (items_start (text requirement_of))

pub returns-in-Err-clause-err : goal.returns-in-Err-clause-err
returns-in-Err-clause-err c =
    let same = c.deref-value-items.ensures.value in
    ⊎_elim (λ p. inl (p.0, items_stop (text requirement_of) _ c.loop-value.value-index c.value-item.result (rw same at c.loop-value-test.true) (rw same at c.value-item.is) p.1)) inr c.in-Err.ensures.err

pub loop-value-preserved : goal.loop-value-preserved
loop-value-preserved c =
    let same = c.deref-value-items.ensures.value in
    let ok : is_ok c.push.result ≡ true = sym (c.in_ok-map_err-in-Ok.ensures.variant) in
    let pushed = rw ok at c.push.ensures.items in
    rw (pushed, map-append comparators_of c.loop-value.read.items (c.in-Ok.req ∷ []))
    (items_more (text requirement_of) _ _ c.value-item.result _ _ (rw same at c.loop-value-test.true) (rw same at c.value-item.is) c.loop-value.invariant c.in-Ok.ensures.ok)
