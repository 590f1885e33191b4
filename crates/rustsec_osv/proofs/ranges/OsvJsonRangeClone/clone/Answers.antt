use Rattle.rustsec_values.proofs.Copies.{map-clones}
use Rattle.rustsec_osv.specs.DocumentEvents.{event_of}
use Rattle.rustsec_osv.proofs.ranges.OsvJsonRangeClone.clone.Goals as goal

pub returns : goal.returns
returns c =
    let events = map-clones _ event_of (λ x y h. h) _ _ c.in_ok-events.ensures.cases.0 in
    record { cases = rw (events, c.in_ok-kind.ensures) c.self.view_is }
