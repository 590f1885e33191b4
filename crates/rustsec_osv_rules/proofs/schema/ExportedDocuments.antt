-- An exported document keeps the schema where its advisory is as the schema asks.
use Rattle.std.proofs.Common.{◌≡◌, ℕ, true, List, [], Option, Some, None, codes, refl, subst, sym}
use Rattle.std.specs.Prelude.{option_map}
use Rattle.std.proofs.lemmas.Bool.{and_from}
use Rattle.serde_json.specs.View.{view}
use Rattle.serde_json.specs.declared.value.Value.{Value}
use Rattle.rustsec_json.specs.Trees.{list_tree}
use Rattle.rustsec_versions.specs.acceptance.Lists.{Lists}
use Rattle.rustsec_versions.specs.ranges.Ranges.{whole}
use Rattle.rustsec_versions.proofs.lemmas.lists.Contained.{contains-here}
use Rattle.rustsec_advisory.specs.FieldGroups.{kinds_of}
use Rattle.rustsec_advisory.specs.declared.advisory.Advisory.{Advisory}
use Rattle.rustsec_advisory.specs.declared.affected.Affected.{Affected}
use Rattle.rustsec_advisory.specs.declared.metadata.Metadata.{Metadata}
use Rattle.rustsec_json.specs.Codecs.{IfThere}
use Rattle.rustsec_osv.specs.DocumentEvents.{JsonRange}
use Rattle.rustsec_osv.specs.Documents.{Document}
use Rattle.rustsec_osv.specs.Export.{IsDocument, IsRangeOf, database_of, document_with, member_of, noon, package_of}
use Rattle.rustsec_osv.specs.DocumentCodec.{affected_codec, document_tree, severity_tree}
use Rattle.rustsec_osv.specs.EventCodec.{range_tree}
use Rattle.rustsec_osv.specs.declared.affected.OsvDatabaseSpecific.{OsvDatabaseSpecific}
use Rattle.rustsec_osv.specs.declared.reference.OsvReference.{OsvReference}
use Rattle.rustsec_osv.proofs.DocumentsRoundTrip.{keyed}
use Rattle.toml.specs.Data.{get_member}
use Rattle.rustsec_toml.specs.Fields.{text}
use Rattle.rustsec_texts.specs.Dates.{date_of}
use Rattle.rustsec_advisory.specs.Advisory.{IsAdvisory}
use Rattle.rustsec_osv.proofs.TablesRoundTrip.{optional-read, text-read, through}
use Rattle.rustsec_osv_rules.specs.schema.Exports.{HasDays, HasNoon, IsForSchema}
use Rattle.rustsec_osv_rules.specs.schema.Names.{document_keys, ecosystems_a}
use Rattle.rustsec_osv_rules.specs.schema.Groups.{are_severities, is_affected}
use Rattle.rustsec_osv_rules.specs.schema.Schema.{IsOsvSchema, has_no_severity, is_range}
use Rattle.rustsec_osv_rules.specs.schema.Texts.{is_ecosystem, is_id, is_one_line}
use Rattle.rustsec_osv_rules.specs.schema.Times.{IsTime}
use Rattle.rustsec_osv_rules.specs.schema.Values.{list_of}
use Rattle.rustsec_osv_rules.proofs.schema.NoonTimes.{parsed-noon}
use Rattle.rustsec_osv_rules.proofs.schema.Rules.{members-at, severities-at}
use Rattle.rustsec_osv_rules.proofs.schema.ExportedLists.{ids-kept, range-kept, references-kept, severities-kept}

-- there is a range
some-range : (ls : Lists) (range : JsonRange) (h : IsRangeOf ls range) → h.ranges ≡ [] → ⊥
some-range ls range h e =
    h.some (h.are_ranges.merged, (h.are_ranges.are_merged, (let is = (h.are_ranges.ranges.empty).0 e in rw is (contains-here whole []))))

one-range-kept : (ls : Lists) (range : JsonRange) → IsRangeOf ls range → is_range (range_tree range) ≡ true
one-range-kept ls range h = range-kept range h.ranges h.kind h.events (some-range ls range h)

crates-io : is_ecosystem (codes "crates.io") ≡ true
unfolding ecosystems_a
crates-io = refl

member-kept : (name : List ℕ) (db : OsvDatabaseSpecific) (a : Option Affected) (range : JsonRange) → is_range (range_tree range) ≡ true
    → is_affected (affected_codec.tree (member_of (package_of name) db a range)) ≡ true
member-kept name db a range h =
    and_from _ _ refl (and_from _ _ (and_from (is_ecosystem (codes "crates.io")) _ crates-io refl) (and_from _ _ refl
    (and_from _ _ (and_from (is_range (range_tree range)) true h refl) refl)))

-- what a document without a version of the schema needs
record IsKept (d : Document) (w : Option (List ℕ)) : Type 0 where
  id : is_id d.id.text ≡ true
  modified : IsTime d.modified
  published : IsTime d.published
  withdrawn : IfThere IsTime w
  summary : is_one_line d.summary ≡ true
  severity : are_severities (list_tree severity_tree d.severity) ≡ true
  affected : list_of is_affected (list_tree affected_codec.tree d.affected) ≡ true
  no_severity : list_of has_no_severity (list_tree affected_codec.tree d.affected) ≡ true

document-kept : (d : Document) (w : Option (List ℕ)) → IsKept d w → IsOsvSchema (document_tree (keyed d None w))
unfolding document_keys
document-kept d None h = record {
  keys = refl;
  schema_version = refl;
  id = h.id;
  modified = h.modified;
  published = h.published;
  withdrawn = tt;
  aliases = ids-kept d.aliases;
  related = ids-kept d.related;
  upstream = refl;
  summary = h.summary;
  details = refl;
  severity = (severities-at (document_tree (keyed d None None))).0 h.severity;
  affected = (members-at (document_tree (keyed d None None))).0 h.affected;
  one_severity = h.no_severity;
  references = references-kept d.references;
  credits = refl;
  database_specific = refl;
}
document-kept d (Some day) h = record {
  keys = refl;
  schema_version = refl;
  id = h.id;
  modified = h.modified;
  published = h.published;
  withdrawn = h.withdrawn;
  aliases = ids-kept d.aliases;
  related = ids-kept d.related;
  upstream = refl;
  summary = h.summary;
  details = refl;
  severity = (severities-at (document_tree (keyed d None (Some day)))).0 h.severity;
  affected = (members-at (document_tree (keyed d None (Some day)))).0 h.affected;
  one_severity = h.no_severity;
  references = references-kept d.references;
  credits = refl;
  database_specific = refl;
}

noons : (o : Option (List ℕ)) → IfThere HasNoon o → IfThere IsTime (option_map noon o)
noons None h = tt
noons (Some day) h = h

made-kept : (m : Metadata) (a : Option Affected) (modified : List ℕ) (references : List OsvReference) (range : JsonRange) → HasDays m → IsForSchema m modified
    → is_range (range_tree range) ≡ true → IsOsvSchema (document_tree (document_with m a modified references range))
made-kept m a modified references range days s h =
    let member = member_of (package_of m.«package») (database_of (kinds_of m)) a range in
    document-kept (document_with m a modified references range) (option_map noon m.withdrawn) (record {
      id = s.id;
      modified = s.changed;
      published = days.date;
      withdrawn = noons m.withdrawn days.withdrawn;
      summary = s.title;
      severity = severities-kept m.cvss s.cvss;
      affected = and_from (is_affected (affected_codec.tree member)) true (member-kept m.«package» (database_of (kinds_of m)) a range h) refl;
      no_severity = refl;
    })

one-kept : (a : Advisory) (modified : List ℕ) (d : Document) → IsDocument a modified d → HasDays a.metadata → IsForSchema a.metadata modified → IsOsvSchema (document_tree d)
one-kept a modified d h days s =
    subst (λ (x : Document). IsOsvSchema (document_tree x)) (sym h.is)
    (made-kept a.metadata a.affected modified h.references h.range days s (one-range-kept a.versions h.range h.is_range))

-- the days of an advisory that was read from a text
pub read-days : (t : List ℕ) (a : Advisory) → IsAdvisory t a → HasDays a.metadata
read-days t a h =
    let of_table = h.1.is_of.metadata in
    let table = h.1.is_of.advisory_table in
    record {
      date = through (get_member (codes "date") table) (text date_of) HasNoon (text-read date_of HasNoon parsed-noon) a.metadata.date of_table.subject.date;
      withdrawn = optional-read (text date_of) HasNoon (text-read date_of HasNoon parsed-noon) (get_member (codes "withdrawn") table) a.metadata.withdrawn of_table.terms.withdrawn;
    }

-- the tree of a document
abbrev pub IsExported : Advisory → List ℕ → Value → Type 0
IsExported a modified v = (d : Document) × (IsDocument a modified d × (view v ≡ document_tree d))

pub exported-kept : (a : Advisory) (modified : List ℕ) (v : Value) → IsExported a modified v → HasDays a.metadata → IsForSchema a.metadata modified → IsOsvSchema (view v)
exported-kept a modified v h days s = subst IsOsvSchema (sym h.1.1) (one-kept a modified h.0 h.1.0 days s)
