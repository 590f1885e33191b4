-- The JSON tree of a check. Each object is a map, so its keys are in the order of their bytes.
use Rattle.std.specs.Prelude.{ℕ, ◌/◌, ◌%◌, ◌++◌, List, [], ◌∷◌, Option, Some, None, codes, length, map, option_and_then, option_map, slice_get}
use Rattle.std.specs.Fmt.{decimal}
use Rattle.std.specs.List.{filter_map}
use Rattle.semver.specs.Identifiers.{parts_text}
use Rattle.serde_json.specs.Data.{Data, boolean, number, string, unsigned}
use Rattle.rustsec_values.specs.Failure as failure
use Rattle.rustsec_values.specs.declared.error.ErrorKind.{ErrorKind}
use Rattle.rustsec_lock.specs.Cvss.{cvss_severity, cvss_text}
use Rattle.rustsec_lock.specs.Package.{PackageValue}
use Rattle.rustsec_lock.specs.Score.{score_tenths_of}
use Rattle.rustsec_lock.specs.Source.{source_text}
use Rattle.rustsec_lock.specs.declared.cvss.Cvss.{Cvss}
use Rattle.rustsec_lock.specs.declared.cvss.Cvss.TheVariants as cvss
use Rattle.rustsec_lock.specs.declared.metrics.Base.{Base}
use Rattle.rustsec_lock.specs.declared.severity.Severity.{Severity}
use Rattle.rustsec_texts.specs.WarningKinds.{warning_kind_name}
use Rattle.rustsec_texts.specs.declared.warning_kind.WarningKind.{WarningKind}
use Rattle.rustsec_advisory.specs.declared.advisory.Advisory.{Advisory}
use Rattle.rustsec_advisory.specs.declared.metadata.Metadata.{Metadata}
use Rattle.rustsec_json.specs.Trees.{list_tree, optional_tree, text_tree}
use Rattle.rustsec_report.specs.Trees.{Entry, ids_tree, lockfile_tree, object_of, severity_tree, versions_tree}
use Rattle.rustsec_policy.specs.Entries.{entry_with}
use Rattle.rustsec_policy.specs.declared.ignored.Ignored.{Ignored}
use Rattle.rustsec_database.specs.Latest.{last_date}
use Rattle.rustsec_report.specs.Words.{package_word, program_of}
use Rattle.rustsec_check.specs.Updates.{UpdateValue}
use Rattle.rustsec_check.specs.Values.{CheckValue, FindingValue, IgnoredValue, YankedValue}

-- ---- packages

-- the name and the version of a package
abbrev pub named_entries : PackageValue → List Entry
named_entries p = (codes "name", string p.name) ∷ (codes "version", string (parts_text p.version)) ∷ []

abbrev pub named_tree : PackageValue → Data
named_tree p = object_of (named_entries p)

-- the name, the source and the version of a package
abbrev pub sourced_entries : PackageValue → List Entry
sourced_entries p =
    (codes "name", string p.name)
    ∷ (codes "source", optional_tree (λ x. string (source_text x)) p.source)
    ∷ (codes "version", string (parts_text p.version))
    ∷ []

abbrev pub sourced_tree : PackageValue → Data
sourced_tree p = object_of (sourced_entries p)

-- the packages at some places
abbrev pub packages_at : List PackageValue → List ℕ → List PackageValue
packages_at packages places = filter_map (slice_get packages) places

-- the packages at some places, by their names and versions
abbrev pub places_tree : List PackageValue → List ℕ → Data
places_tree packages places = list_tree named_tree (packages_at packages places)

-- ---- advisories

-- the base metrics of a vector; none for version 4
abbrev pub base_of : Cvss → Option Base
base_of (cvss.CvssV30 b) = Some b
base_of (cvss.CvssV31 b) = Some b
base_of (cvss.CvssV40 text) = None

-- a score in tenths, as a number with one decimal
abbrev pub score_text : ℕ → List ℕ
score_text tenths = decimal (tenths / 10) ++ (codes "." ++ decimal (tenths % 10))

-- the score of an advisory's vector in tenths, and its rating
abbrev pub tenths_of : Metadata → Option ℕ
tenths_of m = option_map score_tenths_of (option_and_then base_of m.cvss)

abbrev pub severity_of : Metadata → Option Severity
severity_of m = option_and_then cvss_severity m.cvss

-- what an advisory is about
abbrev pub subject : Metadata → List Entry
subject m =
    (codes "aliases", ids_tree m.aliases)
    ∷ (codes "date", string m.date)
    ∷ (codes "id", string m.id.text)
    ∷ (codes "title", string m.title)
    ∷ (codes "url", optional_tree (λ x. string x) m.url)
    ∷ []

-- how severe it is
abbrev pub rating : Metadata → List Entry
rating m =
    (codes "cvss", optional_tree (λ x. string (cvss_text x)) m.cvss)
    ∷ (codes "score", optional_tree (λ x. string (score_text x)) (tenths_of m))
    ∷ (codes "severity", optional_tree severity_tree (severity_of m))
    ∷ []

unfoldable pub advisory_entries : Metadata → List Entry
advisory_entries m = subject m ++ rating m

unfoldable pub advisory_tree : Metadata → Data
advisory_tree m = object_of (advisory_entries m)

-- ---- findings

-- what a pair is: a vulnerability, which has no kind, or a warning of a kind
abbrev pub kind_text : Option WarningKind → List ℕ
kind_text None = codes "vulnerability"
kind_text (Some k) = warning_kind_name k

-- the command that updates a package: the program and its arguments
abbrev pub command : PackageValue → List (List ℕ)
command p = program_of None ∷ codes "update" ∷ package_word p ∷ []

-- how a finding about a package can be mended
abbrev pub update_entries : PackageValue → UpdateValue → List Entry
update_entries p u =
    (codes "command", list_tree text_tree (command p))
    ∷ (codes "compatible", boolean u.is_compatible)
    ∷ (codes "ignored", ids_tree u.moved_by)
    ∷ (codes "least-free", optional_tree (λ v. string (parts_text v)) u.least_free)
    ∷ []

abbrev pub update_tree : PackageValue → UpdateValue → Data
update_tree p u = object_of (update_entries p u)

-- what a finding is about
abbrev pub pair_entries : FindingValue → List Entry
pair_entries f =
    (codes "advisory", advisory_tree f.advisory.metadata)
    ∷ (codes "kind", string (kind_text f.kind))
    ∷ (codes "package", sourced_tree f.«package»)
    ∷ (codes "versions", versions_tree f.advisory.versions)
    ∷ []

-- what is known about it, over the packages of the lockfile
abbrev pub said_entries : List PackageValue → FindingValue → List Entry
said_entries packages f =
    (codes "denied", boolean f.is_denied)
    ∷ (codes "dependents", places_tree packages f.dependents)
    ∷ (codes "old", boolean f.is_old)
    ∷ (codes "path", optional_tree (places_tree packages) f.path)
    ∷ (codes "update", update_tree f.«package» f.update)
    ∷ []

unfoldable pub finding_entries : List PackageValue → FindingValue → List Entry
finding_entries packages f = pair_entries f ++ said_entries packages f

unfoldable pub finding_tree : List PackageValue → FindingValue → Data
finding_tree packages f = object_of (finding_entries packages f)

-- ---- yanked packages

-- what is known about a yanked package, over the packages of the lockfile
abbrev pub yanked_entries : List PackageValue → YankedValue → List Entry
yanked_entries packages y =
    (codes "denied", boolean y.is_denied)
    ∷ (codes "dependents", places_tree packages y.dependents)
    ∷ (codes "old", boolean y.is_old)
    ∷ (codes "package", sourced_tree y.«package»)
    ∷ (codes "path", optional_tree (places_tree packages) y.path)
    ∷ []

unfoldable pub yanked_tree : List PackageValue → YankedValue → Data
yanked_tree packages y = object_of (yanked_entries packages y)

-- ---- ignored pairs

-- what the entry of a policy says, if any
abbrev pub reason_of : Option Ignored → Option (List ℕ)
reason_of None = None
reason_of (Some e) = e.reason

abbrev pub until_of : Option Ignored → Option (List ℕ)
until_of None = None
until_of (Some e) = e.until

abbrev pub ignored_entries : Option Ignored → IgnoredValue → List Entry
ignored_entries entry i =
    (codes "advisory", string i.advisory.metadata.id.text)
    ∷ (codes "kind", string (kind_text i.kind))
    ∷ (codes "package", sourced_tree i.«package»)
    ∷ (codes "reason", optional_tree text_tree (reason_of entry))
    ∷ (codes "until", optional_tree text_tree (until_of entry))
    ∷ []

-- a pair that is ignored, with the reason and the last day of the first entry that has its advisory's ID
unfoldable pub ignored_tree : List Ignored → IgnoredValue → Data
ignored_tree entries i = object_of (ignored_entries (entry_with entries i.advisory.metadata.id) i)

-- ---- the database and the lockfile

-- how many advisories a database has, and their latest date
pub record DatedValue : Type 0 where
  pub count : ℕ
  pub last_date : Option (List ℕ)

-- the same for a list of advisories
abbrev pub dated_of : List Advisory → DatedValue
dated_of advisories = record { count = length advisories; last_date = last_date advisories }

abbrev pub database_entries : DatedValue → List Entry
database_entries d =
    (codes "advisory-count", number (unsigned d.count))
    ∷ (codes "last-date", optional_tree text_tree d.last_date)
    ∷ []

abbrev pub database_tree : DatedValue → Data
database_tree d = object_of (database_entries d)

-- ---- the check

-- a check with what it is written with
pub record WrittenValue : Type 0 where
  pub database : DatedValue
  -- those of the lockfile
  pub packages : List PackageValue
  pub check : CheckValue
  -- those of the policy that ignore advisories
  pub entries : List Ignored
  pub notes : List (List ℕ)
  -- the yanked packages, if an index was asked
  pub yanked : Option (List YankedValue)

-- what was found
abbrev pub found_entries : WrittenValue → List Entry
found_entries w =
    (codes "below-threshold", number (unsigned w.check.below_threshold))
    ∷ (codes "findings", list_tree (finding_tree w.packages) w.check.findings)
    ∷ (codes "ignored", list_tree (ignored_tree w.entries) w.check.ignored)
    ∷ (codes "unknown-ignores", ids_tree w.check.unknown)
    ∷ (codes "unused-ignores", ids_tree w.check.unused)
    ∷ []

-- what was looked at, notes, and what an index says, if one was asked
abbrev pub looked_at_entries : WrittenValue → List Entry
looked_at_entries w =
    (codes "database", database_tree w.database)
    ∷ (codes "lockfile", lockfile_tree (record { dependency_count = length w.packages }))
    ∷ (codes "notes", list_tree text_tree w.notes)
    ∷ (codes "yanked", optional_tree (list_tree (yanked_tree w.packages)) w.yanked)
    ∷ []

unfoldable pub check_entries : WrittenValue → List Entry
check_entries w = found_entries w ++ looked_at_entries w

unfoldable pub check_tree : WrittenValue → Data
check_tree w = object_of (check_entries w)

-- ---- the lines for many lockfiles

-- the check of the lockfile at a path
abbrev pub many_entries : List ℕ → Data → List Entry
many_entries path check = (codes "check", check) ∷ (codes "lockfile", string path) ∷ []

abbrev pub many_tree : List ℕ → Data → Data
many_tree path check = object_of (many_entries path check)

-- a lockfile that was not checked: the kind of the error
abbrev pub refused_entries : List ℕ → ErrorKind → List Entry
refused_entries path kind = (codes "lockfile", string path) ∷ (codes "refused", string (failure.kind_text kind)) ∷ []

abbrev pub refused_tree : List ℕ → ErrorKind → Data
refused_tree path kind = object_of (refused_entries path kind)
