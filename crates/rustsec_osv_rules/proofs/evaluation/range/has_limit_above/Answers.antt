use Rattle.std.proofs.Common.{◌∙◌, sym}
use Rattle.semver.specs.Identifiers.{parts_of}
use Rattle.rustsec_osv_rules.specs.evaluation.Event.{event_view}
use Rattle.rustsec_osv_rules.specs.evaluation.Range.{is_limit_above}
use Rattle.rustsec_osv_rules.proofs.evaluation.Sorted.{any-at}
use Rattle.rustsec_osv_rules.proofs.evaluation.range.has_limit_above.Goals as goal

pub returns-then-is_limit_above : goal.returns-then-is_limit_above
returns-then-is_limit_above c =
    sym (any-at event_view (is_limit_above (parts_of c.args.version.now)) c.args.events.now c.loop-event.event-index c.event-item.result c.loop-event-test.true c.event-item.is
    (sym c.is_limit_above.ensures ∙ c.if-is_limit_above.true))
