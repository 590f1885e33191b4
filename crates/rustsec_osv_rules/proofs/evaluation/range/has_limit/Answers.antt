use Rattle.std.proofs.Common.{◌∙◌, sym}
use Rattle.rustsec_osv_rules.specs.evaluation.Event.{event_view}
use Rattle.rustsec_osv_rules.specs.evaluation.Range.{is_limit}
use Rattle.rustsec_osv_rules.proofs.evaluation.Sorted.{any-at}
use Rattle.rustsec_osv_rules.proofs.evaluation.range.has_limit.Goals as goal

pub returns-then-is_limit : goal.returns-then-is_limit
returns-then-is_limit c =
    sym (any-at event_view is_limit c.args.events.now c.loop-event.event-index c.event-item.result c.loop-event-test.true c.event-item.is
    (sym c.is_limit.ensures ∙ c.if-is_limit.true))
