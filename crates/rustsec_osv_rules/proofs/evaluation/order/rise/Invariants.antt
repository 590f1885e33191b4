use Rattle.std.proofs.Common.{◌≡◌, drop, map, option_map}
use Rattle.semver.specs.Identifiers.{parts_of}
use Rattle.rustsec_osv.specs.DocumentEvents.{event_of}
use Rattle.rustsec_osv_rules.specs.evaluation.Order.{rise}
use Rattle.rustsec_osv_rules.proofs.evaluation.Ordered.{rise_after}
use Rattle.rustsec_osv_rules.proofs.evaluation.order.rise.Given as goal

-- the events that are left say whether all rise
abbrev pub invariant-loop-event : goal.invariant-loop-event
invariant-loop-event l =
    rise_after (option_map (λ v. parts_of v.now) l.before) (map event_of (drop l.event-index l.events)) ≡ rise (map event_of l.events)
