use Rattle.std.proofs.Common.{◌≡◌, false, map, take}
use Rattle.std.specs.List.{list_any}
use Rattle.semver.specs.Identifiers.{parts_of}
use Rattle.rustsec_osv_rules.specs.evaluation.Event.{event_view}
use Rattle.rustsec_osv_rules.specs.evaluation.Range.{is_limit_above}
use Rattle.rustsec_osv_rules.proofs.evaluation.range.has_limit_above.Given as goal

-- none of the events so far is a limit above the version
abbrev pub invariant-loop-event : goal.invariant-loop-event
invariant-loop-event l = list_any (is_limit_above (parts_of l.version)) (map event_view (take l.event-index l.events)) ≡ false
