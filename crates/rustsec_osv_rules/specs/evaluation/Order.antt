-- The order of a document's events: in each range their versions rise. The OSV schema requires no order, since its evaluation sorts the events. It carries
-- meaning: public contracts cite it.
use Rattle.std.specs.Prelude.{◌&&◌, Bool, List, [], ◌∷◌, Option, Some, None, true}
use Rattle.std.specs.List.{list_all}
use Rattle.semver.specs.Parse.{Parts}
use Rattle.rustsec_versions.specs.order.Precedence.{is_at_most}
use Rattle.rustsec_osv.specs.DocumentEvents.{Event, JsonRange}
use Rattle.rustsec_osv.specs.Documents.{Document}
use Rattle.rustsec_osv.specs.declared.affected.OsvAffected.{OsvAffected}
use Rattle.rustsec_osv_rules.specs.evaluation.Document.{ranges_of}
use Rattle.rustsec_osv_rules.specs.evaluation.Event.{seen, version_of}

-- the version of an event
abbrev pub at : Event → Parts
at e = version_of (seen e)

-- each event is at or below the next one, in precedence
abbrev pub rise : List Event → Bool
rise [] = true
rise (e ∷ []) = true
rise (e ∷ f ∷ es) = is_at_most (at e) (at f) && rise (f ∷ es)

-- whether an event is at or above a version, if any
abbrev pub follows : Option Parts → Event → Bool
follows None e = true
follows (Some v) e = is_at_most v (at e)

abbrev pub is_ordered_range : JsonRange → Bool
is_ordered_range r = rise r.events

abbrev pub is_ordered_member : OsvAffected → Bool
is_ordered_member a = list_all is_ordered_range (ranges_of a)

-- a document each of whose ranges has events that rise
abbrev pub has_ordered_events : Document → Bool
has_ordered_events d = list_all is_ordered_member d.affected
