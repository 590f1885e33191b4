use Rattle.std.proofs.Common.{◌≡◌, false, map, take}
use Rattle.std.specs.List.{fold}
use Rattle.semver.specs.Identifiers.{parts_of}
use Rattle.rustsec_osv_rules.specs.evaluation.Event.{event_view}
use Rattle.rustsec_osv_rules.specs.evaluation.Range.{after}
use Rattle.rustsec_osv_rules.proofs.evaluation.range.say_in_order.Given as goal

-- the answer of the events so far
abbrev pub invariant-loop-event : goal.invariant-loop-event
invariant-loop-event l = l.affected ≡ fold (after (parts_of l.version)) false (map event_view (take l.event-index l.events))
