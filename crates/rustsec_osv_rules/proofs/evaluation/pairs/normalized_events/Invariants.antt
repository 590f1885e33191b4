use Rattle.std.proofs.Common.{◌≡◌, ◌++◌, map}
use Rattle.std.specs.Prelude.{option_map, option_to_list}
use Rattle.rustsec_osv.specs.DocumentEvents.{event_of}
use Rattle.rustsec_osv_rules.specs.evaluation.Pairs.{normalized}
use Rattle.rustsec_osv_rules.proofs.evaluation.pairs.normalized_events.Given as goal

-- the events that are kept, and what the pending one and those that are left give
abbrev pub invariant-loop-event : goal.invariant-loop-event
invariant-loop-event l =
    map event_of l.kept.items ++ normalized (option_to_list (option_map event_of l.pending) ++ map event_of l.event-iterator.rest.items)
    ≡ normalized (map event_of l.initial.event-iterator.rest.items)
