use Rattle.std.proofs.Common.{◌≡◌, ◌++◌, flat_map, map, take}
use Rattle.rustsec_osv.specs.DocumentEvents.{JsonRange, event_of}
use Rattle.rustsec.proofs.audited_advisory.add_events_of.Given as goal

-- the events before, and those of the ranges so far
abbrev pub invariant-loop-range : goal.invariant-loop-range
invariant-loop-range l =
    map event_of l.events.items ≡ map event_of l.fn.events.items ++ flat_map (λ (r : JsonRange). r.events) (take l.range-index l.range-items)
