use Rattle.std.proofs.Common.{◌≡◌, drop}
use Rattle.std.specs.List.{list_all}
use Rattle.rustsec_osv_rules.specs.evaluation.Order.{is_ordered_range}
use Rattle.rustsec_osv_rules.proofs.evaluation.order.are_ordered.Given as goal

-- the ranges that are left say whether all are ordered
abbrev pub invariant-loop-range : goal.invariant-loop-range
invariant-loop-range l = list_all is_ordered_range (drop l.range-index l.ranges) ≡ list_all is_ordered_range l.ranges
