use Rattle.std.proofs.Common.{◌≡◌, inl, inr, sym, true, ⊎_elim}
use Rattle.std.specs.Prelude.{is_ok}
use Rattle.rustsec_toml.specs.Fields.{text}
use Rattle.rustsec_toml.proofs.Arrays.{items_more, items_start, items_stop}
use Rattle.rustsec_toml.proofs.section.texts.Goals as goal

pub loop-value-init : goal.loop-value-init
loop-value-init g c = rw c.in_ok-read.ensures.items (items_start (text g.T.FromText.reads))

pub returns-in-Err-clause-err : goal.returns-in-Err-clause-err
returns-in-Err-clause-err g c =
    let same = c.deref-value-items.ensures.value in
    ⊎_elim (λ p. inl (p.0, items_stop (text g.T.FromText.reads) _ c.loop-value.value-index c.value-item.result (rw same at c.loop-value-test.true) (rw same at c.value-item.is) p.1)) inr c.in-Err.ensures.err

pub loop-value-preserved : goal.loop-value-preserved
loop-value-preserved g c =
    let same = c.deref-value-items.ensures.value in
    let ok : is_ok c.push.result ≡ true = sym (c.in_ok-map_err-in-Ok.ensures.variant) in
    let pushed = rw ok at c.push.ensures.items in
    rw pushed
    (items_more (text g.T.FromText.reads) _ _ c.value-item.result _ _ (rw same at c.loop-value-test.true) (rw same at c.value-item.is) c.loop-value.invariant c.in-Ok.ensures.ok)
