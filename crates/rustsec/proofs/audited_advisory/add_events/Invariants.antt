use Rattle.std.proofs.Common.{◌≡◌, ◌++◌, map, take}
use Rattle.rustsec_osv.specs.DocumentEvents.{event_of}
use Rattle.rustsec.proofs.audited_advisory.add_events.Given as goal

-- the events before, and those so far
abbrev pub invariant-loop-event : goal.invariant-loop-event
invariant-loop-event l = map event_of l.events.items ≡ map event_of l.fn.events.items ++ map event_of (take l.event-index l.more)
