-- Documents without two events at one version. It carries meaning: public contracts cite it.
use Rattle.std.specs.Prelude.{◌≡◌, ◌&&◌, Bool, List, [], ◌∷◌, false, if◌then◌else◌, map, not, option_map, true}
use Rattle.std.specs.List.{AllPairs}
use Rattle.rustsec_versions.specs.order.Precedence.{is_at_most}
use Rattle.rustsec_osv.specs.DocumentEvents.{Event, JsonRange, fixed, introduced, last_affected}
use Rattle.rustsec_osv.specs.Documents.{Document}
use Rattle.rustsec_osv.specs.declared.affected.OsvAffected.{OsvAffected}
use Rattle.rustsec_osv_rules.specs.evaluation.Order.{at, rise}

-- whether two events are at one version, by precedence
abbrev pub are_at_one : Event → Event → Bool
are_at_one e f = is_at_most (at e) (at f) && is_at_most (at f) (at e)

-- no two events are at one version. In an exported document two are only where requirements touch: where one interval ends, the next one begins, or where an
-- interval is empty
abbrev pub HaveOwnVersions : List Event → Type 0
HaveOwnVersions es = AllPairs (λ e f. are_at_one e f ≡ false) es

-- events without the pairs of neighbours at one version
abbrev pub normalized : List Event → List Event
normalized [] = []
normalized (e ∷ []) = e ∷ []
normalized (e ∷ f ∷ es) = if are_at_one e f then normalized es else e ∷ normalized (f ∷ es)

-- whether an event is the next one in turn: an introduction if the flag is set, else a fix
abbrev pub has_turn : Bool → Event → Bool
has_turn introduction (introduced v) = introduction
has_turn introduction (fixed v) = not introduction
has_turn introduction (last_affected v) = false

-- whether introductions and fixes take turns; the first one is an introduction if the flag is set, else a fix
abbrev pub take_turns : Bool → List Event → Bool
take_turns introduction [] = true
take_turns introduction (e ∷ es) = has_turn introduction e && take_turns (not introduction) es

-- a range without the pairs, if its events take turns, an introduction first, and rise. Each pair is then an introduction and a fix with no version between
-- them. Any other range stays as it is, since a pair in it may decide a version
abbrev pub normalized_range : JsonRange → JsonRange
normalized_range r = record {
  kind = r.kind;
  events = if take_turns true r.events && rise r.events then normalized r.events else r.events;
}

abbrev pub normalized_member : OsvAffected → OsvAffected
normalized_member a = record {
  «package» = a.«package»;
  ecosystem_specific = a.ecosystem_specific;
  database_specific = a.database_specific;
  ranges = option_map (map normalized_range) a.ranges;
  versions = a.versions;
}

-- a document with each range normalized; all else is the same
abbrev pub normalized_document : Document → Document
normalized_document d = record {
  schema_version = d.schema_version;
  id = d.id;
  modified = d.modified;
  published = d.published;
  withdrawn = d.withdrawn;
  aliases = d.aliases;
  related = d.related;
  summary = d.summary;
  details = d.details;
  severity = d.severity;
  affected = map normalized_member d.affected;
  references = d.references;
  database_specific = d.database_specific;
}
