use Rattle.std.proofs.Common.{◌∙◌, ap, sym}
use Rattle.std.proofs.lemmas.List.{take_all}
use Rattle.std.proofs.lemmas.Simd.{map-map}
use Rattle.serde_json.specs.Data.{array}
use Rattle.serde_json.specs.View.{items_of}
use Rattle.rustsec_osv.specs.DocumentEvents.{event_of}
use Rattle.rustsec_osv.specs.EventCodec.{event_tree}
use Rattle.rustsec_osv.proofs.codec.event.events_tree.Goals as goal

pub returns : goal.returns
returns c =
    let events = c.args.events.now.items in
    let whole = take_all c.loop-event.event-index events (rw c.deref-event-items.ensures.value at c.loop-event-test.false) in
    c.from.ensures ∙ ap (λ ds. array (items_of ds)) ((rw whole at c.loop-event.invariant) ∙ sym (map-map event_tree event_of events))
