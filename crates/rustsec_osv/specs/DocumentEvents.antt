-- Events and ranges of an OSV document (OSV schema, `affected[].ranges[]`), as contracts see them.
use Rattle.std.specs.Prelude.{ℕ, List}
use Rattle.semver.specs.Identifiers.{parts_of}
use Rattle.semver.specs.Parse.{Parts}
use Rattle.rustsec_osv.specs.declared.timeline.OsvTimelineEvent.{OsvTimelineEvent}
use Rattle.rustsec_osv.specs.declared.timeline.OsvTimelineEvent.TheVariants as given

-- an event, by the parts of its version
pub data Event : Type 0 where
  introduced : Parts → Event
  fixed : Parts → Event
  last_affected : Parts → Event

-- what a contract sees of an event
abbrev pub event_of : OsvTimelineEvent → Event
event_of (given.Introduced v) = introduced (parts_of v)
event_of (given.Fixed v) = fixed (parts_of v)
event_of (given.LastAffected v) = last_affected (parts_of v)

-- a range: its kind and its events, in order
pub record JsonRange : Type 0 where
  pub kind : List ℕ
  pub events : List Event
