-- From the files of a database and the table of a lockfile to a report, by definitions alone.
use Rattle.std.specs.Prelude.{◌≡◌, ◌⊎◌, ◌↔◌, ℕ, Contains, List, None, Option, Some, false, true}
use Rattle.toml.specs.Data.{Members}
use Rattle.toml.specs.Parse.{parse_document}
use Rattle.rustsec_files.specs.declared.source_file.SourceFile.{SourceFile}
use Rattle.rustsec_lock.specs.Lockfile.{packages_of}
use Rattle.rustsec_lock.specs.Package.{PackageValue}
use Rattle.rustsec_texts.specs.declared.warning_kind.WarningKind.{WarningKind}
use Rattle.rustsec_values.specs.Failure.{Failure, IsMemory}
use Rattle.rustsec_values.specs.declared.error.ErrorKind.TheVariants as kind
use Rattle.rustsec_advisory.specs.declared.advisory.Advisory.{Advisory}
use Rattle.rustsec_database.specs.Placement.{IsFiled}
use Rattle.rustsec_database.specs.Loaded.{AreLoaded, IsFirstFault, is_stored}
use Rattle.rustsec_database.specs.Pairs.{finds, vulnerability_of}
use Rattle.rustsec_database.specs.Query.{Asked}
use Rattle.rustsec_database.specs.declared.vulnerability.Vulnerability.{Vulnerability}
use Rattle.rustsec_report.specs.Report.{as_warning, gives, informational_query, is_among, query_of, report_of}
use Rattle.rustsec_report.specs.declared.report.Report.{Report}
use Rattle.rustsec_report.specs.declared.settings.Settings.{Settings}
use Rattle.rustsec_report.specs.declared.warning.Warning.{Warning}

-- an advisory that one of these files is loaded as, and whose ID is not the placeholder
abbrev pub IsHeld : List SourceFile → Advisory → Type 0
IsHeld files a = (file : SourceFile) × Contains files file × IsFiled file.path file.text a × (is_stored a ≡ true)

-- a package with an advisory of the files that a query finds for it and that is not ignored
pub record IsSelected (files : List SourceFile) (packages : List PackageValue) (s : Settings) (q : Asked) (v : Vulnerability) : Type 0 where
  pub of : PackageValue
  pub by : Advisory
  pub is_locked : Contains packages of
  pub is_held : IsHeld files by
  pub is_found : finds q of by ≡ true
  pub counts : is_among s.ignore by.metadata.id ≡ false
  pub is : v ≡ vulnerability_of by of

-- such a pair by an informational advisory, as a warning of the kind that it gives
pub record IsWarned (files : List SourceFile) (packages : List PackageValue) (s : Settings) (k : WarningKind) (w : Warning) : Type 0 where
  pub pair : Vulnerability
  pub is_selected : IsSelected files packages s (informational_query s) pair
  pub is_given : gives s k pair ≡ true
  pub is : w ≡ as_warning k pair

-- warnings by kind, with one of them under a kind
abbrev pub Holds : List (WarningKind × List Warning) → WarningKind → Warning → Type 0
Holds es k w = (ws : List Warning) × Contains es (k, ws) × Contains ws w

-- the report of files that load and of a table that holds packages: its two lists go by package in the table's order
-- and then by advisory in the files', with each pair as often as it occurs, and contain exactly the pairs that the
-- settings select
pub record IsReportOf (files : List SourceFile) (table : Members) (s : Settings) (r : Report) : Type 0 where
  pub advisories : List Advisory
  pub packages : List PackageValue
  pub are_loaded : AreLoaded files advisories
  pub are_packages : packages_of table ≡ Some packages
  pub in_order : r ≡ report_of advisories packages s
  pub vulnerabilities : (v : Vulnerability) → Contains r.vulnerabilities.list v ↔ IsSelected files packages s (query_of s) v
  pub warnings : (k : WarningKind) (w : Warning) → Holds r.warnings k w ↔ IsWarned files packages s k w

-- the report of files that load and of a lockfile's text, which is a document whose table holds packages
abbrev pub IsReportOfText : List SourceFile → List ℕ → Settings → Report → Type 0
IsReportOfText files text s r = (table : Members) × ((parse_document text ≡ Some table) × IsReportOf files table s r)

-- files that load, beside a lockfile that holds no packages
abbrev pub HaveNoPackages : List SourceFile → Option (List PackageValue) → Type 0
HaveNoPackages files packages = ((advisories : List Advisory) × AreLoaded files advisories) × (packages ≡ None)

-- why files and a lockfile have no report: the first file at fault; the lockfile, where no file is; or out of memory
abbrev pub IsReportRefusal : List SourceFile → Option (List PackageValue) → Failure → Type 0
IsReportRefusal files packages e = IsFirstFault files e ⊎ (((e.kind ≡ kind.Parse) × HaveNoPackages files packages) ⊎ IsMemory e)
