use Rattle.std.proofs.Common.{◌∙◌, arith, sym}
use Rattle.rustsec_versions.specs.Views.{endpoint_of}
use Rattle.rustsec_versions.proofs.lemmas.ranges.Walk.{bound-there, walk-end, walk-on, walk-over}
use Rattle.rustsec_versions.proofs.ranges.complement.complement.Goals as goal

pub returns-in-Unbounded : goal.returns-in-Unbounded
returns-in-Unbounded c =
    let done = rw c.start.ensures at c.in_ok-add_gap_before.ensures in
    let over = rw (c.end.ensures, c.in-Unbounded.is) at c.in_ok-next.ensures in
    done
    ∙ sym (walk-over c.loop-interval.complement.items (endpoint_of c.loop-interval.from) c.args.intervals.now c.loop-interval.interval-index
    c.interval-item.result c.loop-interval-test.true c.interval-item.is (sym over))
    ∙ c.loop-interval.invariant

pub loop-interval-preserved : goal.loop-interval-preserved
loop-interval-preserved c =
    let done = rw c.start.ensures at c.in_ok-add_gap_before.ensures in
    let next = rw c.end.ensures at c.in_ok-next.ensures in
    rw done
    (sym (walk-on c.loop-interval.complement.items (endpoint_of c.loop-interval.from) (endpoint_of c.in_ok-next.next) c.args.intervals.now
    c.loop-interval.interval-index c.interval-item.result c.loop-interval-test.true c.interval-item.is (sym next)
    (bound-there c.in_ok-next.next c.in_default.not-Unbounded))
    ∙ c.loop-interval.invariant)

pub returns : goal.returns
returns c =
    let ok = sym (c.in_ok-map_err.ensures.variant) in
    let pushed = rw ok at c.push.ensures.items in
    pushed
    ∙ sym (walk-end c.loop-interval.complement.items (endpoint_of c.loop-interval.from) c.args.intervals.now c.loop-interval.interval-index (omega arith))
    ∙ c.loop-interval.invariant
