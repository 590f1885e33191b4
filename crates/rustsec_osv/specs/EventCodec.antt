-- The codecs of versions, events and ranges of an OSV document (OSV schema, `affected[].ranges[]`).
use Rattle.std.specs.Prelude.{ℕ, ◌==◌, ◌++◌, List, [], ◌∷◌, All, count_by, Option, Some, None, codes, if◌then◌else◌, option_map}
use Rattle.serde_json.specs.Data.{Data, Members, string}
use Rattle.serde_json.specs.Events.{members_len}
use Rattle.serde_json.specs.Find.{as_object, get_member}
use Rattle.semver.specs.Grammar.{IsValid}
use Rattle.semver.specs.Identifiers.{parts_text}
use Rattle.semver.specs.Parse.{Parts, version_parts}
use Rattle.rustsec_values.specs.Reading.{◌>>=◌, only_if, value_of}
use Rattle.rustsec_json.specs.Codecs.{Codec, Object, again_where, any_text, field, list_codec, no_more, object_codec, object_of, objects_of, required}
use Rattle.rustsec_json.specs.Fields.{text}
use Rattle.rustsec_osv.specs.DocumentEvents.{Event, JsonRange, fixed, introduced, last_affected}

-- the version of a text, as `semver` parses it
abbrev pub version_of : List ℕ → Option Parts
version_of t = value_of (version_parts t)

-- a version: its text
abbrev pub version_tree : Parts → Data
version_tree v = string (parts_text v)

abbrev pub version_codec : Codec Parts
version_codec = record { tree = version_tree; read = text version_of; IsAgain = IsValid }

-- ---- events

-- how many dots a text has
abbrev pub dots : List ℕ → ℕ
dots t = count_by (λ b. b == 46) t

-- the text of a version in full: the numbers that a short form leaves out are 0
abbrev pub in_full : List ℕ → List ℕ
in_full t = if dots t == 0 then t ++ codes ".0.0" else (if dots t == 1 then t ++ codes ".0" else t)

-- the version of an event
abbrev pub event_version : Data → Option Parts
event_version = text (λ t. version_of (in_full t))

-- the event for the value at a key, or another event if the key is missing
abbrev pub event_at : Option Data → (Parts → Event) → Option Event → Option Event
event_at (Some d) event other = option_map event (event_version d)
event_at None event other = other

-- the event of an object's key
abbrev pub event_in : Members → Option Event
event_in ms =
    event_at (get_member (codes "introduced") ms) introduced
    (event_at (get_member (codes "fixed") ms) fixed
    (event_at (get_member (codes "last_affected") ms) last_affected None))

-- an event: an object of that one key
abbrev pub read_event : Data → Option Event
read_event d = as_object d >>= λ ms. only_if (members_len ms == 1) (event_in ms)

abbrev pub event_tree : Event → Data
event_tree (introduced v) = object_of ((codes "introduced", version_tree v) ∷ [])
event_tree (fixed v) = object_of ((codes "fixed", version_tree v) ∷ [])
event_tree (last_affected v) = object_of ((codes "last_affected", version_tree v) ∷ [])

-- an event of a valid version (SemVer 2.0.0)
abbrev pub IsEventAgain : Event → Type 0
IsEventAgain (introduced v) = IsValid v
IsEventAgain (fixed v) = IsValid v
IsEventAgain (last_affected v) = IsValid v

abbrev pub event_codec : Codec Event
event_codec = record { tree = event_tree; read = read_event; IsAgain = IsEventAgain }

-- ---- ranges

abbrev pub range_object : Object JsonRange
range_object = objects_of (
    field (required (codes "type") any_text) (λ r. r.kind) (
    field (required (codes "events") (list_codec event_codec)) (λ r. r.events) no_more))
    (λ kind events. record { kind = kind; events = events })

-- a range of events of valid versions
abbrev pub IsRangeAgain : JsonRange → Type 0
IsRangeAgain r = All IsEventAgain r.events

abbrev pub range_codec : Codec JsonRange
range_codec = again_where IsRangeAgain (object_codec range_object)

abbrev pub range_tree : JsonRange → Data
range_tree = range_codec.tree
