use Rattle.std.proofs.Common.{◌≡◌, false, map, take}
use Rattle.std.specs.List.{list_any}
use Rattle.rustsec_osv_rules.specs.evaluation.Event.{event_view}
use Rattle.rustsec_osv_rules.specs.evaluation.Range.{is_limit}
use Rattle.rustsec_osv_rules.proofs.evaluation.range.has_limit.Given as goal

-- none of the events so far is a limit
abbrev pub invariant-loop-event : goal.invariant-loop-event
invariant-loop-event l = list_any is_limit (map event_view (take l.event-index l.events)) ≡ false
