use Rattle.std.proofs.Common.{◌≡◌, ◌∙◌, ◌||◌}
use Rattle.rustsec_osv_rules.proofs.evaluation.Sorted.{one-more-now, or-other, or-yes}
use Rattle.rustsec_osv_rules.proofs.evaluation.affected.members_say.Goals as goal
use Rattle.rustsec_osv_rules.proofs.evaluation.affected.members_say.Goals.{then-affected, else-affected}

pub loop-member-preserved : goal.loop-member-preserved
loop-member-preserved c =
    let next : c.if-affected.affected ≡ (c.loop-member.affected || c.in_ok-says.says) = elim c.if-affected.branch [
      | then-affected w ↦ or-yes _ _ _ w.if-affected.true (w.affected-is ∙ w.if-affected.true)
      | else-affected w ↦ or-other _ _ _ w.if-affected.false w.affected-is
    ] in
    one-more-now _ c.args.members.now c.loop-member.member-index c.member-item.result c.loop-member.affected c.if-affected.affected c.in_ok-says.says
    c.loop-member-test.true c.member-item.is c.loop-member.invariant c.in_ok-says.ensures next
