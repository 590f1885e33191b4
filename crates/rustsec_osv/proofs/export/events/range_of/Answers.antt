use Rattle.std.proofs.Common.{◌∙◌}
use Rattle.rustsec_osv.proofs.RisingEvents.{events-say}
use Rattle.rustsec_osv.proofs.ValidEvents.{events-valid}
use Rattle.rustsec_osv.proofs.export.events.range_of.Goals as goal

pub returns-clause-events : goal.returns-clause-events
returns-clause-events c v valid =
    let ranges = c.in_ok-ranges.ensures.ranges.ranges in
    rw c.in_ok-events.ensures
    (events-say c.in_ok-ranges.ranges.items v valid ranges.in_order ranges.followed ∙ c.in_ok-ranges.ensures.agree v valid)

pub returns-clause-valid : goal.returns-clause-valid
returns-clause-valid c = rw c.in_ok-events.ensures (events-valid c.args.versions.now c.in_ok-ranges.ranges.items c.in_ok-ranges.ensures.ranges)
