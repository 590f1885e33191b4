use Rattle.std.proofs.Common.{◌∙◌, Ok, ap, arith, refl, sym}
use Rattle.std.specs.Borrow.{Bor}
use Rattle.rustsec_versions.specs.acceptance.Sweep.{TaggedInterval}
use Rattle.rustsec_versions.specs.Views.{endpoint_of}
use Rattle.rustsec_versions.proofs.lemmas.acceptance.SweepLoop.{sweep-clash, sweep-end, sweep-far, sweep-near}
use Rattle.rustsec_versions.proofs.acceptance.merge.sweep.Goals as goal

pub returns-else-are_patched-clause-clash : goal.returns-else-are_patched-clause-clash
returns-else-are_patched-clause-clash c =
    sym c.loop-next.invariant
    ∙ sweep-clash c.loop-next.done.items (endpoint_of c.loop-next.start.now) c.loop-next.last.now c.next-item.result.now c.args.others.now
    c.loop-next.next-index c.next-item.result c.loop-next-test.true c.next-item.is refl (sym c.overlap.ensures ∙ c.if-not-overlap.false)
    (sym c.are_patched.ensures ∙ c.if-are_patched.false)

pub loop-next-preserved : goal.loop-next-preserved
loop-next-preserved c =
    let far = sweep-far c.loop-next.done.items (endpoint_of c.loop-next.start.now) c.loop-next.last.now c.next-item.result.now c.args.others.now
    c.loop-next.next-index c.next-item.result c.loop-next-test.true c.next-item.is refl in
    let near = sweep-near c.loop-next.done.items (endpoint_of c.loop-next.start.now) c.loop-next.last.now c.next-item.result.now c.args.others.now
    c.loop-next.next-index c.next-item.result c.loop-next-test.true c.next-item.is refl in
    elim c.if-not-overlap.branch [
      | goal.then-not-overlap+in_ok-map_err w ↦
          let pushed = rw (sym (w.in_ok-map_err.ensures.variant)) at w.push.ensures.items in
          let start = w.start-start-then-not-overlap.ensures ∙ ap (λ (b : Bor TaggedInterval). b.now.interval.start) c.next.view_is in
          rw (w.done-is, pushed, w.start-is, w.last-is, start) (sym (far (sym c.overlap.ensures ∙ w.if-not-overlap.true)) ∙ c.loop-next.invariant)
      | goal.else-not-overlap+then-are_patched w ↦
          rw (w.done-is, w.start-is, w.last-is, w.later-last.ensures)
          (sym (near (sym c.overlap.ensures ∙ w.if-not-overlap.false) (sym w.are_patched.ensures ∙ w.if-are_patched.true)) ∙ c.loop-next.invariant)
    ]

pub returns-clause-merged : goal.returns-clause-merged
returns-clause-merged c =
    let pushed = rw (sym (c.in_ok-map_err-2.ensures.variant)) at c.push-2.ensures.items in
    sym c.loop-next.invariant
    ∙ sweep-end c.loop-next.done.items (endpoint_of c.loop-next.start.now) c.loop-next.last.now c.args.others.now c.loop-next.next-index (omega arith)
    ∙ ap Ok (sym pushed)
