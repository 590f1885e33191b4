-- The events of a range as OSV's evaluation takes them (OSV schema, `affected[].ranges[].events`).
use Rattle.semver.specs.Identifiers.{parts_of}
use Rattle.semver.specs.Parse.{Parts}
use Rattle.rustsec_osv.specs.DocumentEvents as document
use Rattle.rustsec_osv_rules.specs.declared.evaluation.event.Event as given
use Rattle.rustsec_osv_rules.specs.declared.evaluation.event.Event.TheVariants as variant

-- an event, by the parts of its version
pub data Event : Type 0 where
  introduced : Parts → Event
  fixed : Parts → Event
  last_affected : Parts → Event
  limit : Parts → Event

-- what a contract sees of an event
abbrev pub event_view : given.Event → Event
event_view (variant.Introduced v) = introduced (parts_of v.now)
event_view (variant.Fixed v) = fixed (parts_of v.now)
event_view (variant.LastAffected v) = last_affected (parts_of v.now)
event_view (variant.Limit v) = limit (parts_of v.now)

-- the event that a document has
abbrev pub seen : document.Event → Event
seen (document.introduced v) = introduced v
seen (document.fixed v) = fixed v
seen (document.last_affected v) = last_affected v

abbrev pub version_of : Event → Parts
version_of (introduced v) = v
version_of (fixed v) = v
version_of (last_affected v) = v
version_of (limit v) = v
