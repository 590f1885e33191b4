use Rattle.std.proofs.Common.{◌≡◌, drop}
use Rattle.std.specs.List.{list_all}
use Rattle.rustsec_osv_rules.specs.evaluation.Order.{is_ordered_member}
use Rattle.rustsec_osv_rules.proofs.evaluation.order.has_ordered_events.Given as goal

-- the members that are left say whether all are ordered
abbrev pub invariant-loop-member : goal.invariant-loop-member
invariant-loop-member l = list_all is_ordered_member (drop l.member-index l.members) ≡ list_all is_ordered_member l.members
