use Rattle.std.proofs.Common.{◌≡◌, ◌++◌, map}
use Rattle.rustsec_osv.specs.DocumentEvents.{event_of}
use Rattle.rustsec_osv.specs.Events.{events_of}
use Rattle.rustsec_osv.proofs.export.events.events_of.Given as goal

abbrev pub invariant-loop-range : goal.invariant-loop-range
invariant-loop-range l =
    map event_of l.events.items ++ events_of l.range-iterator.rest.items ≡ events_of l.initial.range-iterator.rest.items
