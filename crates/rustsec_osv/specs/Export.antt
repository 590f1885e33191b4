-- The document of an advisory (OSV schema).
-- It carries meaning: public contracts cite it.
use Rattle.std.specs.Prelude.{◌≡◌, ℕ, List, [], ◌∷◌, ◌++◌, Option, Some, None, codes, flat_map, map, option_map, option_to_list}
use Rattle.std.specs.Map.{keys_of}
use Rattle.rustsec_versions.specs.acceptance.Lists.{Lists}
use Rattle.rustsec_versions.specs.ranges.Ranges.{Range}
use Rattle.rustsec_versions.specs.ranges.AcceptedRanges.{AreMergedRanges, HasUnboundedInterval}
use Rattle.rustsec_lock.specs.declared.cvss.Cvss.{Cvss}
use Rattle.rustsec_lock.specs.declared.cvss.Cvss.TheVariants as cvss
use Rattle.rustsec_texts.specs.Licenses.{license_name}
use Rattle.rustsec_advisory.specs.FieldGroups.{kinds_of}
use Rattle.rustsec_advisory.specs.declared.advisory.Advisory.{Advisory}
use Rattle.rustsec_advisory.specs.declared.affected.Affected.{Affected}
use Rattle.rustsec_advisory.specs.declared.metadata.Kinds.{Kinds}
use Rattle.rustsec_advisory.specs.declared.metadata.Metadata.{Metadata}
use Rattle.rustsec_osv.specs.DocumentEvents.{Event, JsonRange}
use Rattle.rustsec_osv.specs.Documents.{Document}
use Rattle.rustsec_osv.specs.Events.{events_of}
use Rattle.rustsec_osv.specs.References.{references_of}
use Rattle.rustsec_osv.specs.declared.affected.OsvAffected.{OsvAffected}
use Rattle.rustsec_osv.specs.declared.affected.OsvDatabaseSpecific.{OsvDatabaseSpecific}
use Rattle.rustsec_osv.specs.declared.affected.OsvEcosystemSpecific.{OsvEcosystemSpecific}
use Rattle.rustsec_osv.specs.declared.affected.OsvEcosystemSpecificAffected.{OsvEcosystemSpecificAffected}
use Rattle.rustsec_osv.specs.declared.affected.OsvPackage.{OsvPackage}
use Rattle.rustsec_osv.specs.declared.reference.OsvReference.{OsvReference}
use Rattle.rustsec_osv.specs.declared.severity.OsvSeverity.{OsvSeverity}
use Rattle.rustsec_osv.specs.declared.severity.OsvSeverity.TheVariants as severity

-- noon of a day (RFC 3339, `date-time`)
abbrev pub noon : List ℕ → List ℕ
noon date = date ++ codes "T12:00:00Z"

-- a package of crates.io
abbrev pub package_of : List ℕ → OsvPackage
package_of name = record { ecosystem = codes "crates.io"; name = name; purl = Some (codes "pkg:cargo/" ++ name) }

-- the platforms and the functions of an advisory, none if it names none
abbrev pub affects_of : Option Affected → OsvEcosystemSpecificAffected
affects_of None = record { arch = []; os = []; functions = [] }
affects_of (Some a) = record { arch = a.arch; os = a.os; functions = keys_of a.functions }

abbrev pub ecosystem_of : Option Affected → OsvEcosystemSpecific
ecosystem_of a = record { affects = Some (affects_of a); affected_functions = None }

-- what the advisory database adds, from the classification of the advisory
abbrev pub database_of : Kinds → OsvDatabaseSpecific
database_of k = record { categories = k.categories; cvss = k.cvss; informational = k.informational }

-- an affected package with one range, and no version that is listed
abbrev pub member_of : OsvPackage → OsvDatabaseSpecific → Option Affected → JsonRange → OsvAffected
member_of p database a range = record {
  «package» = p;
  ecosystem_specific = Some (ecosystem_of a);
  database_specific = database;
  ranges = Some (range ∷ []);
  versions = Some [];
}

-- the severity of a vector, by its version
abbrev pub severity_of : Cvss → OsvSeverity
severity_of (cvss.CvssV30 b) = severity.CVSS_V3 b
severity_of (cvss.CvssV31 b) = severity.CVSS_V3 b
severity_of (cvss.CvssV40 text) = severity.CVSS_V4 text

-- the document of an advisory's metadata, with these references and this range
abbrev pub document_with : Metadata → Option Affected → List ℕ → List OsvReference → JsonRange → Document
document_with m a modified references range = record {
  schema_version = None;
  id = m.id;
  modified = modified;
  published = noon m.date;
  withdrawn = option_map noon m.withdrawn;
  aliases = m.aliases;
  related = m.related;
  summary = m.title;
  details = m.description;
  severity = map severity_of (option_to_list m.cvss);
  affected = member_of (package_of m.«package») (database_of (kinds_of m)) a range ∷ [];
  references = references;
  database_specific = record { license = Some (license_name m.license) };
}

-- ---- which ranges

-- a range with the events of the ranges that the requirements leave; there is at least one such range
pub record IsRangeOf (ls : Lists) (range : JsonRange) : Type 0 where
  pub ranges : List Range
  pub are_ranges : AreMergedRanges ls ranges
  pub some : ¬ HasUnboundedInterval ls
  pub kind : range.kind ≡ codes "SEMVER"
  pub events : range.events ≡ events_of ranges

-- the document of an advisory that was changed at a time
pub record IsDocument (a : Advisory) (modified : List ℕ) (d : Document) : Type 0 where
  pub range : JsonRange
  pub is_range : IsRangeOf a.versions range
  pub references : List OsvReference
  pub are_references : references_of a.metadata ≡ Some references
  pub is : d ≡ document_with a.metadata a.affected modified references range

-- ---- its events

-- all events of a document, range by range
abbrev pub events_of_member : OsvAffected → List Event
events_of_member a = flat_map (λ ranges. flat_map (λ (r : JsonRange). r.events) ranges) (option_to_list a.ranges)

abbrev pub document_events : Document → List Event
document_events d = flat_map events_of_member d.affected
