use Rattle.std.proofs.Common.{inl, inr, ⊎_elim}
use Rattle.rustsec_json.proofs.Lists.{items_more, items_start, items_stop}
use Rattle.rustsec_json.proofs.read.list.Goals as goal

pub loop-tree-init : goal.loop-tree-init
loop-tree-init g c = rw c.new-read.ensures (items_start g.T.FromTree.reads)

pub returns-in-Err-clause-err : goal.returns-in-Err-clause-err
returns-in-Err-clause-err g c =
    let same = c.deref-tree-items.ensures.value in
    ⊎_elim (λ p. inl (p.0, items_stop g.T.FromTree.reads _ c.loop-tree.tree-index c.tree-item.result (rw same at c.loop-tree-test.true) (rw same at c.tree-item.is) p.1)) inr c.in-Err.ensures.err

pub loop-tree-preserved : goal.loop-tree-preserved
loop-tree-preserved g c =
    let same = c.deref-tree-items.ensures.value in
    rw c.in_ok-push-in-Ok.ensures.ok
    (items_more g.T.FromTree.reads _ _ c.tree-item.result _ _ (rw same at c.loop-tree-test.true) (rw same at c.tree-item.is) c.loop-tree.invariant c.in-Ok.ensures.ok)
