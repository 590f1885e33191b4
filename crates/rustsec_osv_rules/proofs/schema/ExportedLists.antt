-- The lists of an exported document keep the schema.
use Rattle.std.proofs.Common.{◌≡◌, ◌&&◌, ◌++◌, ℕ, Bool, true, false, List, [], ◌∷◌, Option, Some, None, codes, map, not, refl, sym, subst}
use Rattle.std.specs.Prelude.{option_to_list}
use Rattle.std.proofs.lemmas.Bool.{and_from, or_left}
use Rattle.serde_json.specs.Data.{Data}
use Rattle.serde_json.specs.View.{items_of}
use Rattle.semver.specs.Parse.{Parts}
use Rattle.rustsec_json.specs.TextCodecs.{id_codec}
use Rattle.rustsec_json.specs.Trees.{list_tree}
use Rattle.rustsec_lock.specs.declared.cvss.Cvss.{Cvss}
use Rattle.rustsec_lock.specs.declared.cvss.Cvss.TheVariants as cvss
use Rattle.rustsec_json.specs.Codecs.{IfThere}
use Rattle.rustsec_osv.specs.DocumentEvents.{Event, JsonRange, fixed, introduced, last_affected}
use Rattle.rustsec_osv.specs.Events.{beginning, events_of, fix}
use Rattle.rustsec_osv.specs.Export.{severity_of}
use Rattle.rustsec_osv.specs.EventCodec.{event_tree, range_tree}
use Rattle.rustsec_osv.specs.DocumentCodec.{reference_codec, severity_tree}
use Rattle.rustsec_osv.specs.declared.reference.OsvReference.{OsvReference}
use Rattle.rustsec_osv.specs.declared.reference.OsvReferenceKind.{OsvReferenceKind}
use Rattle.rustsec_osv.specs.declared.reference.OsvReferenceKind.TheVariants as kind
use Rattle.rustsec_osv.specs.DocumentKinds.{reference_kind_name}
use Rattle.rustsec_texts.specs.Ids.{IdValue}
use Rattle.rustsec_versions.specs.ranges.Ranges.{Range}
use Rattle.rustsec_osv_rules.specs.schema.Exports.{HasSchemaScore}
use Rattle.rustsec_osv_rules.specs.schema.Names.{range_types, reference_types}
use Rattle.rustsec_osv_rules.specs.schema.Groups.{are_severities, is_severity}
use Rattle.rustsec_osv_rules.specs.schema.Schema.{are_ends_alike, are_events, is_event, is_range, is_reference}
use Rattle.rustsec_osv_rules.specs.schema.Texts.{is_one_of}
use Rattle.rustsec_osv_rules.specs.schema.Values.{every, has, is_text, list_of, some}
use Rattle.rustsec_osv_rules.specs.schema.VectorScan.{is_vector_4}
use Rattle.rustsec_osv_rules.proofs.schema.ExportedVectors.{vector-kept}
use Rattle.rustsec_osv_rules.proofs.schema.VectorForms.{vector-4-kept}

-- the trees of values that all keep a rule
pub every-kept : {A : Type 0} (rule : Data → Bool) (tree : A → Data) → ((x : A) → rule (tree x) ≡ true) → (xs : List A) → every rule (items_of (map tree xs)) ≡ true
every-kept rule tree h [] = refl
every-kept rule tree h (x ∷ xs) = and_from (rule (tree x)) _ (h x) (every-kept rule tree h xs)

pub ids-kept : (ids : List IdValue) → list_of is_text (list_tree id_codec.tree ids) ≡ true
ids-kept ids = every-kept is_text id_codec.tree (λ id. refl) ids

-- ---- references

kind-kept : (k : OsvReferenceKind) → is_one_of reference_types (reference_kind_name k) ≡ true
unfolding reference_types
kind-kept kind.ADVISORY = refl
kind-kept kind.ARTICLE = refl
kind-kept kind.REPORT = refl
kind-kept kind.FIX = refl
kind-kept kind.PACKAGE = refl
kind-kept kind.WEB = refl

reference-kept : (r : OsvReference) → is_reference (reference_codec.tree r) ≡ true
reference-kept r = and_from (is_one_of reference_types (reference_kind_name r.kind)) _ (kind-kept r.kind) refl

pub references-kept : (rs : List OsvReference) → list_of is_reference (list_tree reference_codec.tree rs) ≡ true
references-kept rs = every-kept is_reference reference_codec.tree reference-kept rs

-- ---- events

event-kept : (e : Event) → is_event (event_tree e) ≡ true
event-kept (introduced v) = refl
event-kept (fixed v) = refl
event-kept (last_affected v) = refl

-- no event is one of the last affected version
no-last-after : (f : Option Parts) (b : Parts) (es : List Event) → some (has (codes "last_affected")) (items_of (map event_tree es)) ≡ false
    → some (has (codes "last_affected")) (items_of (map event_tree ((introduced b ∷ fix f) ++ es))) ≡ false
no-last-after None b es h = h
no-last-after (Some v) b es h = h

no-last : (rs : List Range) → some (has (codes "last_affected")) (items_of (map event_tree (events_of rs))) ≡ false
no-last [] = refl
no-last (r ∷ rs) = no-last-after r.fixed (beginning r.introduced) (events_of rs) (no-last rs)

not-both : (a b : Bool) → b ≡ false → not (a && b) ≡ true
not-both true b h = rw h refl
not-both false b h = refl

-- the first range begins
begins : (rs : List Range) → (rs ≡ [] → ⊥) → some (has (codes "introduced")) (items_of (map event_tree (events_of rs))) ≡ true
begins [] h = absurd (h refl)
begins (r ∷ rs) h = refl

ends-kept : (es : List Event) → some (has (codes "last_affected")) (items_of (map event_tree es)) ≡ false → are_ends_alike (list_tree event_tree es) ≡ true
ends-kept es h = not-both (some (has (codes "fixed")) (items_of (map event_tree es))) (some (has (codes "last_affected")) (items_of (map event_tree es))) h

pub events-kept : (rs : List Range) → (rs ≡ [] → ⊥) → are_events (list_tree event_tree (events_of rs)) ≡ true
events-kept rs h =
    and_from _ _ (every-kept is_event event_tree event-kept (events_of rs)) (and_from _ _ (begins rs h) (ends-kept (events_of rs) (no-last rs)))

plain-range-kept : (es : List Event) → are_events (list_tree event_tree es) ≡ true → is_range (range_tree (record { kind = codes "SEMVER"; events = es })) ≡ true
unfolding range_types
plain-range-kept es h = and_from (is_one_of range_types (codes "SEMVER")) _ refl (and_from (are_events (list_tree event_tree es)) _ h refl)

pub range-kept : (range : JsonRange) (rs : List Range) → range.kind ≡ codes "SEMVER" → range.events ≡ events_of rs → (rs ≡ [] → ⊥) → is_range (range_tree range) ≡ true
range-kept range rs kind_is events_are h =
    subst (λ (k : List ℕ). is_range (range_tree (record { kind = k; events = range.events })) ≡ true) (sym kind_is)
    (plain-range-kept range.events (subst (λ (es : List Event). are_events (list_tree event_tree es) ≡ true) (sym events_are) (events-kept rs h)))

-- ---- severities

severity-kept : (v : Cvss) → HasSchemaScore v → is_severity (severity_tree (severity_of v)) ≡ true
severity-kept (cvss.CvssV30 base) h = vector-kept base h
severity-kept (cvss.CvssV31 base) h = vector-kept base h
severity-kept (cvss.CvssV40 vector) h = or_left (is_vector_4 vector) false (vector-4-kept vector h)

pub severities-kept : (o : Option Cvss) → IfThere HasSchemaScore o → are_severities (list_tree severity_tree (map severity_of (option_to_list o))) ≡ true
severities-kept None h = refl
severities-kept (Some v) h = and_from (is_severity (severity_tree (severity_of v))) true (severity-kept v h) refl
