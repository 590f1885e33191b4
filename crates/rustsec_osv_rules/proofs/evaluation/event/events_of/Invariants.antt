use Rattle.std.proofs.Common.{◌≡◌, map, take}
use Rattle.rustsec_osv.specs.DocumentEvents.{event_of}
use Rattle.rustsec_osv_rules.specs.evaluation.Event.{event_view, seen}
use Rattle.rustsec_osv_rules.proofs.evaluation.event.events_of.Given as goal

-- the events so far
abbrev pub invariant-loop-event : goal.invariant-loop-event
invariant-loop-event l = map event_view l.all.items ≡ map seen (map event_of (take l.event-index l.events))
