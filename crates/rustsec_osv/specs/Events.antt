-- The meaning of the events of a range for a version (OSV schema, `affected[].ranges[].events`), and the events of a
-- list of ranges. It carries meaning: public contracts cite it.
use Rattle.std.specs.Prelude.{Bool, true, false, List, [], ◌∷◌, Option, Some, None, filter, flat_map}
use Rattle.semver.specs.Parse.{Parts}
use Rattle.rustsec_versions.specs.order.Precedence.{is_at_most, least_of}
use Rattle.rustsec_versions.specs.ranges.Ranges.{Range}
use Rattle.rustsec_osv.specs.DocumentEvents.{Event, fixed, introduced, last_affected}

-- whether an event is an introduction or a fix at or below a version
abbrev pub is_until : Parts → Event → Bool
is_until v (introduced w) = is_at_most w v
is_until v (fixed w) = is_at_most w v
is_until v (last_affected w) = false

abbrev pub is_introduction : Event → Bool
is_introduction (introduced v) = true
is_introduction (fixed v) = false
is_introduction (last_affected v) = false

-- whether the last of some events is an introduction
abbrev pub ends_introduced : List Event → Bool
ends_introduced [] = false
ends_introduced (e ∷ []) = is_introduction e
ends_introduced (e ∷ f ∷ es) = ends_introduced (f ∷ es)

-- events call a version affected if the last event in the list that is at or below it is an introduction
unfoldable pub events_say : List Event → Parts → Bool
events_say es v = ends_introduced (filter (is_until v) es)

-- ---- the events of ranges

-- the version at which a range begins: the least version, `0.0.0-0`, if its introduction is missing
abbrev pub beginning : Option Parts → Parts
beginning None = least_of 0 0 0
beginning (Some v) = v

abbrev pub fix : Option Parts → List Event
fix None = []
fix (Some v) = fixed v ∷ []

-- the introduction of a range, then its fix, if any
abbrev pub events_of_range : Range → List Event
events_of_range r = introduced (beginning r.introduced) ∷ fix r.fixed

-- the events of ranges, range by range
abbrev pub events_of : List Range → List Event
events_of rs = flat_map events_of_range rs
