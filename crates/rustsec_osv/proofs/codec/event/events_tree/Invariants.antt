use Rattle.std.proofs.Common.{◌≡◌, map, take}
use Rattle.serde_json.specs.View.{view}
use Rattle.rustsec_osv.specs.DocumentEvents.{event_of}
use Rattle.rustsec_osv.specs.EventCodec.{event_tree}
use Rattle.rustsec_osv.proofs.codec.event.events_tree.Given as goal

abbrev pub invariant-loop-event : goal.invariant-loop-event
invariant-loop-event l = map view l.trees.items ≡ map (λ e. event_tree (event_of e)) (take l.event-index l.events.items)
