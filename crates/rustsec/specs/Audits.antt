-- What an audit of texts answers: an answer about each advisory of the files, and the report of the lockfile, both in
-- order; or the first fault.
use Rattle.std.specs.Prelude.{◌≡◌, ◌⊎◌, ℕ, List, Some, map}
use Rattle.rustsec_values.specs.Failure.{Failure, IsMemory}
use Rattle.rustsec_values.specs.declared.error.ErrorKind.TheVariants as kind
use Rattle.rustsec_files.specs.Listed.{Pairwise}
use Rattle.rustsec_files.specs.declared.source_file.SourceFile.{SourceFile}
use Rattle.rustsec_lock.specs.Lockfile.{lockfile_of}
use Rattle.rustsec_lock.specs.Package.{PackageValue}
use Rattle.rustsec_advisory.specs.declared.advisory.Advisory.{Advisory}
use Rattle.rustsec_database.specs.Loaded.{AreLoaded, IsFirstFault}
use Rattle.rustsec_report.specs.EndToEnd.{HaveNoPackages}
use Rattle.rustsec_report.specs.Report.{report_of}
use Rattle.rustsec_report.specs.declared.settings.Settings.{Settings}
use Rattle.rustsec.specs.Acceptance.{IsAdvisoryIfAccepted}
use Rattle.rustsec.specs.Answers.{Answer, IsFirstWithoutExport}
use Rattle.rustsec.specs.declared.audit.Audit.{Audit}

-- the files load, and each of their advisories has this with the answer at its place; there are no other answers
abbrev pub EachHas : (Advisory → Answer → Type 0) → List SourceFile → List Answer → Type 0
EachHas R files answers = (advisories : List Advisory) × AreLoaded files advisories × Pairwise R advisories answers

-- the report goes by package in the lockfile's order, and then by advisory in the order of the files; so do the answers
pub record IsInOrder (files : List SourceFile) (lockfile : List ℕ) (s : Settings) (x : Audit) : Type 0 where
  pub advisories : List Advisory
  pub are_loaded : AreLoaded files advisories
  pub packages : List PackageValue
  pub are_packages : lockfile_of lockfile ≡ Some packages
  pub report : x.report ≡ report_of advisories packages s
  pub answers : map (λ (a : Answer). a.id) x.advisories ≡ map (λ (a : Advisory). a.metadata.id) advisories

-- ---- refusals

-- the refusal of the first file at fault. If all that is wrong with its text may be its lists, they are not accepted
pub record IsFileRefusal (files : List SourceFile) (e : Failure) : Type 0 where
  pub first : IsFirstFault files e
  pub lists : IsAdvisoryIfAccepted first.bad.text

-- the refusal of the first advisory without an export, if the files load and the lockfile holds packages
pub record IsExportRefusal (files : List SourceFile) (lockfile : List ℕ) (e : Failure) : Type 0 where
  pub advisories : List Advisory
  pub are_loaded : AreLoaded files advisories
  pub packages : List PackageValue
  pub are_packages : lockfile_of lockfile ≡ Some packages
  pub first : IsFirstWithoutExport advisories e

-- the reason for a refusal: the first file at fault; else the lockfile; else the first advisory without an export; or
-- out of memory
abbrev pub IsAuditRefusal : List SourceFile → List ℕ → Failure → Type 0
IsAuditRefusal files lockfile e =
    IsFileRefusal files e
    ⊎ (((e.kind ≡ kind.Parse) × HaveNoPackages files (lockfile_of lockfile)) ⊎ (IsExportRefusal files lockfile e ⊎ IsMemory e))
