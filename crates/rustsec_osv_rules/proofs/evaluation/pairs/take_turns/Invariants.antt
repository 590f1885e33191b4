use Rattle.std.proofs.Common.{◌≡◌, drop, map, true}
use Rattle.rustsec_osv.specs.DocumentEvents.{event_of}
use Rattle.rustsec_osv_rules.specs.evaluation.Pairs.{take_turns}
use Rattle.rustsec_osv_rules.proofs.evaluation.pairs.take_turns.Given as goal

-- the events that are left say whether all take turns
abbrev pub invariant-loop-event : goal.invariant-loop-event
invariant-loop-event l = take_turns l.introduction (map event_of (drop l.event-index l.events)) ≡ take_turns true (map event_of l.events)
