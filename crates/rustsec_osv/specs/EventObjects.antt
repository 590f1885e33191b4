-- The JSON objects of a document's events (OSV schema, `affected[].ranges[].events[]`), and what it is for them to be read
-- as its events. It carries meaning: public contracts cite it.
use Rattle.std.specs.Prelude.{◌≡◌, ℕ, List, [], Some, codes, flat_map, option_and_then, option_map, unwrap_or}
use Rattle.serde_json.specs.Data.{Data}
use Rattle.serde_json.specs.Find.{as_array, get}
use Rattle.rustsec_json.specs.Fields.{list_of}
use Rattle.rustsec_values.specs.Reading.{read_all}
use Rattle.rustsec_osv.specs.DocumentEvents.{Event}
use Rattle.rustsec_osv.specs.EventCodec.{read_event}

-- the items of the array at a key of an object; the empty list for any other value
abbrev pub items_at : List ℕ → Data → List Data
items_at key d = unwrap_or (option_map list_of (option_and_then as_array (get key d))) []

-- the objects at `affected[].ranges[].events[]` of a document, in order
abbrev pub event_objects : Data → List Data
event_objects document =
    flat_map (λ member. flat_map (items_at (codes "events")) (items_at (codes "ranges") member)) (items_at (codes "affected") document)

-- each event's object is read as this event, as `from_value` reads events: no other events are read, and none is refused
abbrev pub AreEventsRead : Data → List Event → Type 0
AreEventsRead document events = read_all read_event (event_objects document) ≡ Some events
