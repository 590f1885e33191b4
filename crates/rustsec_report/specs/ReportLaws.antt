-- What changes in a report with one more ignored ID, with further advisories and without the packages of other
-- sources. Clauses of `Report::generate` and `Report::of_texts` cite these laws.
use Rattle.std.specs.Prelude.{◌≡◌, ◌++◌, ℕ, Bool, false, not, List, [], ◌∷◌, map, Option, Some, None}
use Rattle.std.specs.List.{filter, flat_map}
use Rattle.rustsec_files.specs.declared.source_file.SourceFile.{SourceFile}
use Rattle.rustsec_lock.specs.Lockfile.{lockfile_of}
use Rattle.rustsec_lock.specs.Package.{PackageValue}
use Rattle.rustsec_texts.specs.IdOrder.{id_eq}
use Rattle.rustsec_texts.specs.Ids.{IdValue}
use Rattle.rustsec_advisory.specs.declared.advisory.Advisory.{Advisory}
use Rattle.rustsec_advisory.specs.declared.metadata.Metadata.{Metadata}
use Rattle.rustsec_database.specs.Placement.{IsFiled}
use Rattle.rustsec_database.specs.Loaded.{AreLoaded, is_stored}
use Rattle.rustsec_database.specs.Query.{Asked}
use Rattle.rustsec_database.specs.declared.vulnerability.Vulnerability.{Vulnerability}
use Rattle.rustsec_report.specs.Report.{found, info_of, informational_query, present, query_of, warnings_by_kind, without}
use Rattle.rustsec_report.specs.declared.report.Report.{Report}
use Rattle.rustsec_report.specs.declared.settings.Settings.{Settings}
use Rattle.rustsec_report.specs.declared.warning.Warning.{Warning}

-- ---- one more ignored ID

-- the settings with one more ignored ID
abbrev pub ignoring : IdValue → Settings → Settings
ignoring id s = record s { ignore = s.ignore ++ id ∷ [] }

-- whether the advisory of a pair has another ID
abbrev pub is_of_another : IdValue → Vulnerability → Bool
is_of_another id v = not (id_eq id v.advisory.id)

-- whether an advisory, if any, has an ID
abbrev pub is_by : IdValue → Option Metadata → Bool
is_by id None = false
is_by id (Some a) = id_eq id a.id

-- whether a warning is not by the advisory with an ID
abbrev pub warns_of_another : IdValue → Warning → Bool
warns_of_another id w = not (is_by id w.advisory)

-- a report without the pairs of one ID: all others stay, in their order, and a kind without warnings is left out
pub record LacksOnly (id : IdValue) (r less : Report) : Type 0 where
  pub vulnerabilities : less.vulnerabilities ≡ info_of (filter (is_of_another id) r.vulnerabilities.list)
  pub warnings : less.warnings ≡ present (map (λ e. (e.0, filter (warns_of_another id) e.1)) r.warnings)

-- ---- further advisories

-- the pairs that a query finds and that are not ignored
abbrev pub counted : List Advisory → List PackageValue → Settings → Asked → List Vulnerability
counted advisories packages s q = without s.ignore (found advisories packages q)

-- package by package, the pairs of some advisories and then those of others
abbrev pub with_others : List Advisory → List Advisory → List PackageValue → Settings → Asked → List Vulnerability
with_others advisories others packages s q = flat_map (λ p. counted advisories (p ∷ []) s q ++ counted others (p ∷ []) s q) packages

-- a report of some advisories, and one of these and others: to each package's pairs, of vulnerabilities and of warnings, the others
-- add their own
pub record AddTheirOwn (advisories others : List Advisory) (packages : List PackageValue) (s : Settings) (r more : Report) : Type 0 where
  pub before : r.vulnerabilities.list ≡ flat_map (λ p. counted advisories (p ∷ []) s (query_of s)) packages
  pub after : more.vulnerabilities ≡ info_of (with_others advisories others packages s (query_of s))
  pub warned_before : r.warnings ≡ warnings_by_kind s (flat_map (λ p. counted advisories (p ∷ []) s (informational_query s)) packages)
  pub warned_after : more.warnings ≡ warnings_by_kind s (with_others advisories others packages s (informational_query s))

-- a report of files and a lockfile's text, and one of these and one more file: its advisory adds its own pairs, and none if its ID
-- is the placeholder
pub record AddsItsOwn (files : List SourceFile) (file : SourceFile) (text : List ℕ) (s : Settings) (r more : Report) : Type 0 where
  pub advisories : List Advisory
  pub packages : List PackageValue
  pub one : Advisory
  pub are_loaded : AreLoaded files advisories
  pub are_packages : lockfile_of text ≡ Some packages
  pub is_filed : IsFiled file.path file.text one
  pub adds : AddTheirOwn advisories (filter is_stored (one ∷ [])) packages s r more

-- ---- packages of other sources

-- two reports with the same findings
pub record FindTheSame (r other : Report) : Type 0 where
  pub vulnerabilities : r.vulnerabilities ≡ other.vulnerabilities
  pub warnings : r.warnings ≡ other.warnings
