-- The JSON tree of a report. Each object is a map, so its keys are in the order of their bytes.
use Rattle.std.specs.Prelude.{List, [], ◌∷◌, ◌++◌, map, codes}
use Rattle.semver.specs.Identifiers.{parts_text}
use Rattle.semver.specs.Parse.{Held}
use Rattle.serde_json.specs.Data.{Data, Members, boolean, no_members, number, object, string, unsigned}
use Rattle.rustsec_versions.specs.acceptance.Lists.{Lists}
use Rattle.rustsec_versions.specs.requirement.RequirementText.{requirement_text}
use Rattle.rustsec_lock.specs.Cvss.{cvss_text}
use Rattle.rustsec_lock.specs.Package.{PackageValue}
use Rattle.rustsec_lock.specs.Platforms.{arch_text, os_text}
use Rattle.rustsec_lock.specs.Score.{severity_text}
use Rattle.rustsec_lock.specs.Source.{source_text}
use Rattle.rustsec_lock.specs.declared.severity.Severity.{Severity}
use Rattle.rustsec_texts.specs.Categories.{category_name}
use Rattle.rustsec_texts.specs.Collections.{collection_name}
use Rattle.rustsec_texts.specs.Ids.{IdValue}
use Rattle.rustsec_texts.specs.Informational.{informational_name}
use Rattle.rustsec_texts.specs.Licenses.{license_name}
use Rattle.rustsec_texts.specs.Paths.{path_text}
use Rattle.rustsec_texts.specs.WarningKinds.{warning_kind_name}
use Rattle.rustsec_texts.specs.declared.warning_kind.WarningKind.{WarningKind}
use Rattle.rustsec_advisory.specs.Affected.{Function}
use Rattle.rustsec_advisory.specs.declared.affected.Affected.{Affected}
use Rattle.rustsec_advisory.specs.declared.metadata.Metadata.{Metadata}
use Rattle.rustsec_json.specs.Codecs.{Row, with_rows}
use Rattle.rustsec_json.specs.Trees.{list_tree, optional_tree}
use Rattle.rustsec_database.specs.declared.vulnerability.Vulnerability.{Vulnerability}
use Rattle.rustsec_report.specs.declared.info.LockfileInfo.{LockfileInfo}
use Rattle.rustsec_report.specs.declared.info.VulnerabilityInfo.{VulnerabilityInfo}
use Rattle.rustsec_report.specs.declared.report.Report.{Report}
use Rattle.rustsec_report.specs.declared.settings.Settings.{Settings}
use Rattle.rustsec_report.specs.declared.warning.Warning.{Warning}

-- a key and its tree: a row, as in the codecs of objects
abbrev pub Entry : Type 0
Entry = Row

-- members with more rows, one after another
unfoldable pub with_members : Members → List Entry → Members
with_members ms es = with_rows ms es

-- the object of these keys
abbrev pub object_of : List Entry → Data
object_of es = object (with_members no_members es)

-- IDs by their texts
abbrev pub ids_tree : List IdValue → Data
ids_tree ids = list_tree (λ (i : IdValue). string i.text) ids

-- requirements by their texts
abbrev pub requirements_tree : List (List Held) → Data
requirements_tree rs = list_tree (λ r. string (requirement_text r)) rs

-- functions: an object from the text of each path to its requirements
abbrev pub functions : List Function → List Entry
functions fs = map (λ (f : Function). (path_text f.0, requirements_tree f.1)) fs

-- ---- advisories

abbrev pub affected_entries : Affected → List Entry
affected_entries a =
    (codes "arch", list_tree (λ x. string (arch_text x)) a.arch)
    ∷ (codes "functions", object_of (functions a.functions))
    ∷ (codes "os", list_tree (λ x. string (os_text x)) a.os)
    ∷ []

abbrev pub affected_tree : Affected → Data
affected_tree a = object_of (affected_entries a)

abbrev pub versions_entries : Lists → List Entry
versions_entries v =
    (codes "patched", requirements_tree v.patched)
    ∷ (codes "unaffected", requirements_tree v.unaffected)
    ∷ []

abbrev pub versions_tree : Lists → Data
versions_tree v = object_of (versions_entries v)

-- the keys of the table `advisory`: names, packages and days
abbrev pub subject : Metadata → List Entry
subject m =
    (codes "aliases", ids_tree m.aliases)
    ∷ (codes "date", string m.date)
    ∷ (codes "id", string m.id.text)
    ∷ (codes "package", string m.«package»)
    ∷ (codes "related", ids_tree m.related)
    ∷ []

-- its classification
abbrev pub kinds : Metadata → List Entry
kinds m =
    (codes "categories", list_tree (λ x. string (category_name x)) m.categories)
    ∷ (codes "collection", optional_tree (λ x. string (collection_name x)) m.collection)
    ∷ (codes "cvss", optional_tree (λ x. string (cvss_text x)) m.cvss)
    ∷ (codes "informational", optional_tree (λ x. string (informational_name x)) m.informational)
    ∷ (codes "keywords", list_tree (λ x. string x) m.keywords)
    ∷ []

-- references, source and address
abbrev pub origin : Metadata → List Entry
origin m =
    (codes "references", list_tree (λ x. string x) m.references)
    ∷ (codes "source", optional_tree (λ x. string (source_text x)) m.source)
    ∷ (codes "url", optional_tree (λ x. string x) m.url)
    ∷ []

-- its texts, license and expectation of deletion
abbrev pub terms : Metadata → List Entry
terms m =
    (codes "description", string m.description)
    ∷ (codes "expect-deleted", boolean m.expect_deleted)
    ∷ (codes "license", string (license_name m.license))
    ∷ (codes "title", string m.title)
    ∷ (codes "withdrawn", optional_tree (λ x. string x) m.withdrawn)
    ∷ []

-- all eighteen keys
unfoldable pub metadata_entries : Metadata → List Entry
metadata_entries m = subject m ++ (kinds m ++ (origin m ++ terms m))

unfoldable pub metadata_tree : Metadata → Data
metadata_tree m = object_of (metadata_entries m)

-- ---- packages, vulnerabilities, warnings

abbrev pub package_entries : PackageValue → List Entry
package_entries p =
    (codes "checksum", optional_tree (λ x. string x) p.checksum)
    ∷ (codes "name", string p.name)
    ∷ (codes "source", optional_tree (λ x. string (source_text x)) p.source)
    ∷ (codes "version", string (parts_text p.version))
    ∷ []

abbrev pub package_tree : PackageValue → Data
package_tree p = object_of (package_entries p)

abbrev pub vulnerability_entries : Vulnerability → List Entry
vulnerability_entries v =
    (codes "advisory", metadata_tree v.advisory)
    ∷ (codes "affected", optional_tree affected_tree v.affected)
    ∷ (codes "package", package_tree v.«package»)
    ∷ (codes "versions", versions_tree v.versions)
    ∷ []

unfoldable pub vulnerability_tree : Vulnerability → Data
vulnerability_tree v = object_of (vulnerability_entries v)

abbrev pub warning_entries : Warning → List Entry
warning_entries w =
    (codes "advisory", optional_tree metadata_tree w.advisory)
    ∷ (codes "affected", optional_tree affected_tree w.affected)
    ∷ (codes "kind", string (warning_kind_name w.kind))
    ∷ (codes "package", package_tree w.«package»)
    ∷ (codes "versions", optional_tree versions_tree w.versions)
    ∷ []

unfoldable pub warning_tree : Warning → Data
warning_tree w = object_of (warning_entries w)

-- ---- the report

abbrev pub lockfile_tree : LockfileInfo → Data
lockfile_tree l = object_of ((codes "dependency-count", number (unsigned l.dependency_count)) ∷ [])

abbrev pub severity_tree : Severity → Data
severity_tree s = string (severity_text s)

abbrev pub settings_entries : Settings → List Entry
settings_entries s =
    (codes "ignore", ids_tree s.ignore)
    ∷ (codes "informational_warnings", list_tree (λ x. string (informational_name x)) s.informational_warnings)
    ∷ (codes "severity", optional_tree severity_tree s.severity)
    ∷ (codes "target_arch", list_tree (λ x. string (arch_text x)) s.target_arch)
    ∷ (codes "target_os", list_tree (λ x. string (os_text x)) s.target_os)
    ∷ []

abbrev pub settings_tree : Settings → Data
settings_tree s = object_of (settings_entries s)

abbrev pub info_entries : VulnerabilityInfo → List Entry
info_entries i =
    (codes "count", number (unsigned i.count))
    ∷ (codes "found", boolean i.found)
    ∷ (codes "list", list_tree vulnerability_tree i.list)
    ∷ []

abbrev pub vulnerabilities_tree : VulnerabilityInfo → Data
vulnerabilities_tree i = object_of (info_entries i)

-- one key for each kind of warnings
abbrev pub kinds_of_warnings : List (WarningKind × List Warning) → List Entry
kinds_of_warnings ws = map (λ e. (warning_kind_name e.0, list_tree warning_tree e.1)) ws

abbrev pub report_entries : Report → List Entry
report_entries r =
    (codes "lockfile", lockfile_tree r.lockfile)
    ∷ (codes "settings", settings_tree r.settings)
    ∷ (codes "vulnerabilities", vulnerabilities_tree r.vulnerabilities)
    ∷ (codes "warnings", object_of (kinds_of_warnings r.warnings))
    ∷ []

unfoldable pub report_tree : Report → Data
report_tree r = object_of (report_entries r)
