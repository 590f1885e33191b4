-- The findings of a check as a report lists them.
use Rattle.std.specs.Prelude.{if◌then◌else◌, List, Option, Some, None, filter_map, map}
use Rattle.std.specs.Option.{option_eq}
use denote.Enum.Bare.{sameb}
use Rattle.rustsec_lock.specs.Package.{PackageValue}
use Rattle.rustsec_texts.specs.WarningKinds.{warning_kinds}
use Rattle.rustsec_texts.specs.contracts.warning_kind.WarningKind.{the_type as warning_kind}
use Rattle.rustsec_texts.specs.declared.warning_kind.WarningKind.{WarningKind}
use Rattle.rustsec_advisory.specs.declared.advisory.Advisory.{Advisory}
use Rattle.rustsec_database.specs.Pairs.{vulnerability_of}
use Rattle.rustsec_database.specs.declared.vulnerability.Vulnerability.{Vulnerability}
use Rattle.rustsec_report.specs.Report.{as_warning, present}
use Rattle.rustsec_report.specs.declared.warning.Warning.{Warning}
use Rattle.rustsec_check.specs.Values.{FindingValue}

-- an advisory and a package as a vulnerability, unless they are a warning, which has a kind
abbrev pub unless_warning : Option WarningKind → Advisory → PackageValue → Option Vulnerability
unless_warning None a p = Some (vulnerability_of a p)
unless_warning (Some k) a p = None

-- the findings that are vulnerabilities, in order
abbrev pub vulnerabilities_in : List FindingValue → List Vulnerability
vulnerabilities_in findings = filter_map (λ (f : FindingValue). unless_warning f.kind f.advisory f.«package») findings

-- an advisory and a package as a warning of a kind, if it is theirs
abbrev pub if_warning : WarningKind → Option WarningKind → Advisory → PackageValue → Option Warning
if_warning k kind a p = if option_eq (sameb warning_kind) kind (Some k) then Some (as_warning k (vulnerability_of a p)) else None

-- the findings that are warnings of a kind, in order
abbrev pub warnings_in : List FindingValue → WarningKind → List Warning
warnings_in findings k = filter_map (λ (f : FindingValue). if_warning k f.kind f.advisory f.«package») findings

-- each kind with the findings that are its warnings, by the order of kinds; a kind without one is left out
abbrev pub warnings_among : List FindingValue → List (WarningKind × List Warning)
warnings_among findings = present (map (λ k. (k, warnings_in findings k)) warning_kinds)
