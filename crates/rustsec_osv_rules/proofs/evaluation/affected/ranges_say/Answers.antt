use Rattle.std.proofs.Common.{◌≡◌, ◌∙◌, ◌||◌}
use Rattle.rustsec_osv_rules.proofs.evaluation.Sorted.{one-more, or-other, or-yes}
use Rattle.rustsec_osv_rules.proofs.evaluation.affected.ranges_say.Goals as goal
use Rattle.rustsec_osv_rules.proofs.evaluation.affected.ranges_say.Goals.{then-affected, else-affected}

pub loop-range-preserved : goal.loop-range-preserved
loop-range-preserved c =
    let next : c.if-affected.affected ≡ (c.loop-range.affected || c.in_ok-says.says) = elim c.if-affected.branch [
      | then-affected w ↦ or-yes _ _ _ w.if-affected.true (w.affected-is ∙ w.if-affected.true)
      | else-affected w ↦ or-other _ _ _ w.if-affected.false w.affected-is
    ] in
    one-more _ c.args.ranges.now c.loop-range.range-index c.range-item.result c.loop-range.affected c.if-affected.affected c.in_ok-says.says
    c.loop-range-test.true c.range-item.is c.loop-range.invariant c.in_ok-says.ensures next
