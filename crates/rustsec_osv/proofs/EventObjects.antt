-- The objects of a document's events are the trees of these events, and are read as them.
use mathlib.Core.List.{map-append}
use Rattle.std.proofs.Common.{◌≡◌, ◌∙◌, List, [], ◌∷◌, ◌++◌, All, map, Option, Some, None, append-nil, option_to_list, refl, ap, sym, subst}
use Rattle.std.specs.Prelude.{Err, IfOk, Ok, Result, codes, option_and_then, option_map, unwrap_or}
use Rattle.std.specs.List.{flat_map}
use Rattle.std.proofs.lemmas.List.Elements.{All-append, All-head, All-nil, All-tail}
use Rattle.serde_json.specs.Data.{Data}
use Rattle.serde_json.specs.Find.{as_array}
use Rattle.rustsec_values.specs.Failure.{Failure}
use Rattle.rustsec_json.specs.Codecs.{IfThere}
use Rattle.rustsec_json.specs.Fields.{list_of}
use Rattle.rustsec_json.specs.Trees.{list_tree, optional_tree}
use Rattle.rustsec_json.proofs.CodecsRoundTrip.{list-again, list_of-items, object-held}
use Rattle.rustsec_values.specs.Reading.{read_all}
use Rattle.rustsec_osv.specs.DocumentCodec.{AreEventsValid, affected_codec, document_object, document_tree}
use Rattle.rustsec_osv.specs.DocumentEvents.{Event, JsonRange}
use Rattle.rustsec_osv.specs.Documents.{Document}
use Rattle.rustsec_osv.specs.EventCodec.{IsEventAgain, IsRangeAgain, event_codec, event_tree, range_tree, read_event}
use Rattle.rustsec_osv.specs.EventObjects.{AreEventsRead, event_objects, items_at}
use Rattle.rustsec_osv.specs.Export.{document_events, events_of_member}
use Rattle.rustsec_osv.specs.declared.affected.OsvAffected.{OsvAffected}
use Rattle.rustsec_osv.proofs.EventsRoundTrip.{event-again, event-there}

-- the items of the trees of values, piece by piece
pieces : {A B : Type 0} (tree : A → Data) (items : Data → List Data) (part : B → Data) (parts : A → List B)
    → ((x : A) → items (tree x) ≡ map part (parts x)) → (xs : List A) → flat_map items (map tree xs) ≡ map part (flat_map parts xs)
pieces tree items part parts one [] = refl
pieces tree items part parts one (x ∷ xs) =
    ap (λ ds. ds ++ flat_map items (map tree xs)) (one x) ∙ ap (λ ds. map part (parts x) ++ ds) (pieces tree items part parts one xs)
    ∙ sym (map-append part (parts x) (flat_map parts xs))

-- the objects in a range
range-objects : (r : JsonRange) → items_at (codes "events") (range_tree r) ≡ map event_tree r.events
range-objects r = list_of-items (map event_tree r.events)

-- the objects in the ranges of a member
ranges-objects : (o : Option (List JsonRange))
    → flat_map (items_at (codes "events")) (unwrap_or (option_map list_of (as_array (optional_tree (list_tree range_tree) o))) [])
    ≡ map event_tree (flat_map (λ rs. flat_map (λ (r : JsonRange). r.events) rs) (option_to_list o))
ranges-objects None = refl
ranges-objects (Some rs) =
    ap (λ ds. flat_map (items_at (codes "events")) ds) (list_of-items (map range_tree rs))
    ∙ pieces range_tree (items_at (codes "events")) event_tree (λ (r : JsonRange). r.events) range-objects rs
    ∙ ap (λ es. map event_tree es) (sym (append-nil (flat_map (λ (r : JsonRange). r.events) rs)))

-- the objects in a member's object
objects_in : Data → List Data
objects_in member = flat_map (items_at (codes "events")) (items_at (codes "ranges") member)

member-objects : (a : OsvAffected) → objects_in (affected_codec.tree a) ≡ map event_tree (events_of_member a)
unfolding objects_in
member-objects a = ranges-objects a.ranges

-- the objects of a document's events
pub objects-are : (d : Document) → event_objects (document_tree d) ≡ map event_tree (document_events d)
unfolding objects_in
objects-are d =
    let held = (object-held document_object d refl).1.1.1.1.1.1.1.1.1.1.1.0 in
    ap (λ (o : Option Data). flat_map objects_in (unwrap_or (option_map list_of (option_and_then as_array o)) [])) held
    ∙ ap (λ ds. flat_map objects_in ds) (list_of-items (map affected_codec.tree d.affected))
    ∙ pieces affected_codec.tree objects_in event_tree events_of_member member-objects d.affected

-- ---- they are read

all-in : {A B : Type 0} (P : B → Type 0) (parts : A → List B) (Q : A → Type 0) → ((x : A) → Q x → All P (parts x)) → (xs : List A) → All Q xs
    → All P (flat_map parts xs)
all-in P parts Q one [] h = All-nil P
all-in P parts Q one (x ∷ xs) h =
    All-append P (parts x) (flat_map parts xs) (one x (All-head Q x xs h)) (all-in P parts Q one xs (All-tail Q x xs h))

ranges-valid : (o : Option (List JsonRange)) → IfThere (All IsRangeAgain) o
    → All IsEventAgain (flat_map (λ rs. flat_map (λ (r : JsonRange). r.events) rs) (option_to_list o))
ranges-valid None h = All-nil IsEventAgain
ranges-valid (Some rs) h =
    subst (All IsEventAgain) (sym (append-nil (flat_map (λ (r : JsonRange). r.events) rs)))
    (all-in IsEventAgain (λ (r : JsonRange). r.events) IsRangeAgain (λ r valid. valid) rs h)

events-valid : (d : Document) → AreEventsValid d → All IsEventAgain (document_events d)
events-valid d h =
    all-in IsEventAgain events_of_member (λ (a : OsvAffected). IfThere (All IsRangeAgain) a.ranges) (λ a valid. ranges-valid a.ranges valid) d.affected h

all-read : (es : List Event) → All IsEventAgain es → read_all read_event (map event_tree es) ≡ Some es
all-read es h =
    ap (read_all read_event) (sym (list_of-items (map event_tree es)))
    ∙ (list-again {c = event_codec} (record { again = event-again; there = event-there })).again es h

-- the objects of events with valid versions are read as these events
pub objects-read : (d : Document) → AreEventsValid d → AreEventsRead (document_tree d) (document_events d)
objects-read d h = ap (read_all read_event) (objects-are d) ∙ all-read (document_events d) (events-valid d h)

-- likewise for the result of the export
pub exported-objects : (r : Result Document Failure) → IfOk r AreEventsValid → IfOk r (λ d. AreEventsRead (document_tree d) (document_events d))
exported-objects (Ok d) valid = objects-read d valid
exported-objects (Err f) valid = tt
