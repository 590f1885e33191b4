-- The advisories of a report's vulnerabilities and warnings.
use Rattle.std.specs.Prelude.{◌≡◌, false, Some, None}
use Rattle.std.specs.List.{All}
use Rattle.rustsec_texts.specs.Informational.{kind_of_warnings}
use Rattle.rustsec_texts.specs.declared.informational.Informational.{Informational}
use Rattle.rustsec_texts.specs.declared.warning_kind.WarningKind.{WarningKind}
use Rattle.rustsec_advisory.specs.declared.metadata.Metadata.{Metadata}
use Rattle.rustsec_database.specs.declared.vulnerability.Vulnerability.{Vulnerability}
use Rattle.rustsec_report.specs.Report.{is_among}
use Rattle.rustsec_report.specs.declared.report.Report.{Report}
use Rattle.rustsec_report.specs.declared.settings.Settings.{Settings}
use Rattle.rustsec_report.specs.declared.warning.Warning.{Warning}

-- an advisory that is neither withdrawn nor ignored
pub record IsInForce (s : Settings) (m : Metadata) : Type 0 where
  pub not_withdrawn : m.withdrawn ≡ None
  pub counts : is_among s.ignore m.id ≡ false

-- a vulnerability whose advisory is in force and not informational
pub record IsVulnerability (s : Settings) (v : Vulnerability) : Type 0 where
  pub in_force : IsInForce s v.advisory
  pub not_informational : v.advisory.informational ≡ None

-- a warning of this kind whose advisory is in force, with an informational kind that gives this kind of warnings
pub record IsWarning (s : Settings) (k : WarningKind) (w : Warning) : Type 0 where
  pub advisory : Metadata
  pub by : w.advisory ≡ Some advisory
  pub in_force : IsInForce s advisory
  pub informational : Informational
  pub informs : advisory.informational ≡ Some informational
  pub gives : kind_of_warnings informational ≡ Some k
  pub has_kind : w.kind ≡ k

-- a report with only such vulnerabilities and warnings
pub record ListsWhatIsInForce (r : Report) : Type 0 where
  pub vulnerabilities : All (IsVulnerability r.settings) r.vulnerabilities.list
  pub warnings : All (λ e. All (IsWarning r.settings e.0) e.1) r.warnings
