use Rattle.std.proofs.Common.{◌≡◌, ◌++◌, map}
use Rattle.rustsec_osv.specs.DocumentEvents.{event_of}
use Rattle.rustsec_osv.proofs.codec.event.events_of.Given as goal

abbrev pub invariant-loop-item : goal.invariant-loop-item
invariant-loop-item l = map event_of l.events.items ++ l.item-iterator.rest.items ≡ l.initial.item-iterator.rest.items
