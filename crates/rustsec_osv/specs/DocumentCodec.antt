-- The codec of an OSV document (OSV schema): a row for each key, with the codec of its value. It gives the tree of a document,
-- the trees that are documents, and the condition under which a document is read from its own tree: parsing the text
-- that a part prints gives that part, and versions are valid (SemVer 2.0.0). This holds for all parts that this
-- workspace parses from texts. Keys without a row are ignored, except in an event.
-- It carries meaning: public contracts cite it.
use Rattle.std.specs.Prelude.{◌≡◌, ◌⊎◌, ℕ, List, [], ◌∷◌, All, Option, Some, None, ⊤, codes}
use Rattle.std.specs.Str.{bytes_eq}
use Rattle.serde_json.specs.Data.{Data, string}
use Rattle.serde_json.specs.Find.{as_object}
use Rattle.rustsec_values.specs.Reading.{◌>>=◌, only_if}
use Rattle.rustsec_json.specs.Codecs.{Codec, IfThere, Object, again_where, any_text, defaulted, field, left_out, list_codec, no_more, object_codec, object_of, objects_of, optional, required}
use Rattle.rustsec_json.specs.Fields as reader
use Rattle.rustsec_json.specs.TextCodecs.{address_codec, arch_codec, category_codec, id_codec, informational_codec, os_codec, path_codec, vector_codec}
use Rattle.rustsec_texts.specs.Addresses.{address_of}
use Rattle.rustsec_lock.specs.Cvss.{base_text, cvss_of}
use Rattle.rustsec_lock.specs.declared.cvss.Cvss.TheVariants as cvss
use Rattle.rustsec_osv.specs.DocumentKinds.{reference_kind_name, reference_kind_of}
use Rattle.rustsec_osv.specs.Documents.{Document}
use Rattle.rustsec_osv.specs.EventCodec.{IsRangeAgain, range_codec, version_codec}
use Rattle.rustsec_osv.specs.Export.{severity_of}
use Rattle.rustsec_osv.specs.declared.affected.OsvAffected.{OsvAffected}
use Rattle.rustsec_osv.specs.declared.affected.OsvDatabaseSpecific.{OsvDatabaseSpecific}
use Rattle.rustsec_osv.specs.declared.affected.OsvEcosystemSpecific.{OsvEcosystemSpecific}
use Rattle.rustsec_osv.specs.declared.affected.OsvEcosystemSpecificAffected.{OsvEcosystemSpecificAffected}
use Rattle.rustsec_osv.specs.declared.affected.OsvPackage.{OsvPackage}
use Rattle.rustsec_osv.specs.declared.document.MainOsvDatabaseSpecific.{MainOsvDatabaseSpecific}
use Rattle.rustsec_osv.specs.declared.reference.OsvReference.{OsvReference}
use Rattle.rustsec_osv.specs.declared.reference.OsvReferenceKind.{OsvReferenceKind}
use Rattle.rustsec_osv.specs.declared.severity.OsvSeverity.{OsvSeverity}
use Rattle.rustsec_osv.specs.declared.severity.OsvSeverity.TheVariants as severity

-- ---- a member of `affected`

abbrev pub package_object : Object OsvPackage
package_object = objects_of (
    field (required (codes "ecosystem") any_text) (λ p. p.ecosystem) (
    field (required (codes "name") any_text) (λ p. p.name) (
    field (optional (codes "purl") any_text) (λ p. p.purl) no_more)))
    (λ ecosystem name purl. record { ecosystem = ecosystem; name = name; purl = purl })

abbrev pub package_codec : Codec OsvPackage
package_codec = object_codec package_object

-- the affected platforms and functions
abbrev pub affects_object : Object OsvEcosystemSpecificAffected
affects_object = objects_of (
    field (required (codes "arch") (list_codec arch_codec)) (λ a. a.arch) (
    field (required (codes "os") (list_codec os_codec)) (λ a. a.os) (
    field (required (codes "functions") (list_codec path_codec)) (λ a. a.functions) no_more)))
    (λ arch os functions. record { arch = arch; os = os; functions = functions })

abbrev pub affects_codec : Codec OsvEcosystemSpecificAffected
affects_codec = object_codec affects_object

-- what the ecosystem adds
abbrev pub ecosystem_object : Object OsvEcosystemSpecific
ecosystem_object = objects_of (
    field (optional (codes "affects") affects_codec) (λ e. e.affects) (
    field (optional (codes "affected_functions") (list_codec path_codec)) (λ e. e.affected_functions) no_more))
    (λ affects functions. record { affects = affects; affected_functions = functions })

abbrev pub ecosystem_codec : Codec OsvEcosystemSpecific
ecosystem_codec = object_codec ecosystem_object

-- what the advisory database adds
abbrev pub database_object : Object OsvDatabaseSpecific
database_object = objects_of (
    field (defaulted (codes "categories") [] (list_codec category_codec)) (λ d. d.categories) (
    field (optional (codes "cvss") vector_codec) (λ d. d.cvss) (
    field (optional (codes "informational") informational_codec) (λ d. d.informational) no_more)))
    (λ categories vector informational. record { categories = categories; cvss = vector; informational = informational })

abbrev pub database_codec : Codec OsvDatabaseSpecific
database_codec = object_codec database_object

abbrev pub affected_object : Object OsvAffected
affected_object = objects_of (
    field (required (codes "package") package_codec) (λ a. a.«package») (
    field (optional (codes "ecosystem_specific") ecosystem_codec) (λ a. a.ecosystem_specific) (
    field (required (codes "database_specific") database_codec) (λ a. a.database_specific) (
    field (optional (codes "ranges") (list_codec range_codec)) (λ a. a.ranges) (
    field (optional (codes "versions") (list_codec any_text)) (λ a. a.versions) no_more)))))
    (λ p e d r v. record { «package» = p; ecosystem_specific = e; database_specific = d; ranges = r; versions = v })

abbrev pub affected_codec : Codec OsvAffected
affected_codec = object_codec affected_object

-- ---- a vector, with its type

-- the type of a vector
abbrev pub type_of : OsvSeverity → List ℕ
type_of (severity.CVSS_V3 base) = codes "CVSS_V3"
type_of (severity.CVSS_V4 vector) = codes "CVSS_V4"

-- its text
abbrev pub score_of : OsvSeverity → List ℕ
score_of (severity.CVSS_V3 base) = base_text base
score_of (severity.CVSS_V4 vector) = vector

abbrev pub severity_tree : OsvSeverity → Data
severity_tree s = object_of ((codes "type", string (type_of s)) ∷ (codes "score", string (score_of s)) ∷ [])

-- a vector must have the version that its type names
abbrev pub read_severity : Data → Option OsvSeverity
read_severity d =
    as_object d >>= λ ms.
    reader.required any_text.read (codes "type") ms >>= λ type.
    reader.required vector_codec.read (codes "score") ms >>= λ vector.
    only_if (bytes_eq type (type_of (severity_of vector))) (Some (severity_of vector))

abbrev pub IsSeverityAgain : OsvSeverity → Type 0
IsSeverityAgain (severity.CVSS_V3 base) =
    (cvss_of (base_text base) ≡ Some (cvss.CvssV30 base)) ⊎ (cvss_of (base_text base) ≡ Some (cvss.CvssV31 base))
IsSeverityAgain (severity.CVSS_V4 vector) = cvss_of vector ≡ Some (cvss.CvssV40 vector)

abbrev pub severity_codec : Codec OsvSeverity
severity_codec = record { tree = severity_tree; read = read_severity; IsAgain = IsSeverityAgain }

-- ---- a reference

abbrev pub kind_codec : Codec OsvReferenceKind
kind_codec = record { tree = λ k. string (reference_kind_name k); read = reader.text reference_kind_of; IsAgain = λ k. ⊤ }

abbrev pub reference_object : Object OsvReference
reference_object = objects_of (
    field (required (codes "type") kind_codec) (λ r. r.kind) (
    field (required (codes "url") address_codec) (λ r. r.url) no_more))
    (λ kind url. record { kind = kind; url = url })

abbrev pub IsReferenceAgain : OsvReference → Type 0
IsReferenceAgain r = address_of r.url ≡ Some r.url

abbrev pub reference_codec : Codec OsvReference
reference_codec = again_where IsReferenceAgain (object_codec reference_object)

-- ---- a document

abbrev pub license_object : Object MainOsvDatabaseSpecific
license_object = objects_of (field (optional (codes "license") any_text) (λ m. m.license) no_more) (λ license. record { license = license })

abbrev pub license_codec : Codec MainOsvDatabaseSpecific
license_codec = object_codec license_object

abbrev pub document_object : Object Document
document_object = objects_of (
    field (left_out (codes "schema_version") version_codec) (λ d. d.schema_version) (
    field (required (codes "id") id_codec) (λ d. d.id) (
    field (required (codes "modified") any_text) (λ d. d.modified) (
    field (required (codes "published") any_text) (λ d. d.published) (
    field (left_out (codes "withdrawn") any_text) (λ d. d.withdrawn) (
    field (required (codes "summary") any_text) (λ d. d.summary) (
    field (required (codes "details") any_text) (λ d. d.details) (
    field (defaulted (codes "severity") [] (list_codec severity_codec)) (λ d. d.severity) (
    field (defaulted (codes "database_specific") (record { license = None }) license_codec) (λ d. d.database_specific) (
    field (defaulted (codes "aliases") [] (list_codec id_codec)) (λ d. d.aliases) (
    field (defaulted (codes "related") [] (list_codec id_codec)) (λ d. d.related) (
    field (defaulted (codes "affected") [] (list_codec affected_codec)) (λ d. d.affected) (
    field (defaulted (codes "references") [] (list_codec reference_codec)) (λ d. d.references) no_more)))))))))))))
    (λ schema_version id modified published withdrawn summary details severity database aliases related affected references. record {
      schema_version = schema_version;
      id = id;
      modified = modified;
      published = published;
      withdrawn = withdrawn;
      aliases = aliases;
      related = related;
      summary = summary;
      details = details;
      severity = severity;
      affected = affected;
      references = references;
      database_specific = database;
    })

abbrev pub document_codec : Codec Document
document_codec = object_codec document_object

abbrev pub document_tree : Document → Data
document_tree = document_codec.tree

abbrev pub read_document : Data → Option Document
read_document = document_codec.read

abbrev pub IsDocumentAgain : Document → Type 0
IsDocumentAgain = document_codec.IsAgain

-- a document whose events have valid versions, whatever its other parts are
abbrev pub AreEventsValid : Document → Type 0
AreEventsValid d = All (λ (a : OsvAffected). IfThere (All IsRangeAgain) a.ranges) d.affected
