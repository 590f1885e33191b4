-- The report of a lockfile: which pairs of a package and an advisory it lists, and what it contains about them.
use Rattle.std.specs.Prelude.{◌==◌, Bool, true, false, not, if◌then◌else◌, List, [], ◌∷◌, length, map, nat_eq, Option, Some, None, option_and_then}
use Rattle.std.specs.Cmp.Lexicographic.{pointwise}
use Rattle.std.specs.List.{filter, list_any}
use Rattle.std.specs.Option.{option_eq}
use denote.Enum.Bare.{sameb}
use Rattle.rustsec_lock.specs.Package.{PackageValue}
use Rattle.rustsec_texts.specs.IdOrder.{id_eq}
use Rattle.rustsec_texts.specs.Ids.{IdValue}
use Rattle.rustsec_texts.specs.Informational.{kind_of_warnings}
use Rattle.rustsec_texts.specs.WarningKinds.{warning_kinds}
use Rattle.rustsec_texts.specs.contracts.warning_kind.WarningKind.{the_type as warning_kind}
use Rattle.rustsec_texts.specs.declared.informational.Informational.{Informational}
use Rattle.rustsec_texts.specs.declared.informational.Informational.TheVariants as informational
use Rattle.rustsec_texts.specs.declared.warning_kind.WarningKind.{WarningKind}
use Rattle.rustsec_advisory.specs.declared.advisory.Advisory.{Advisory}
use Rattle.rustsec_database.specs.Pairs.{as_vulnerability, pairs}
use Rattle.rustsec_database.specs.Query.{Asked, crate_scope}
use Rattle.rustsec_database.specs.declared.vulnerability.Vulnerability.{Vulnerability}
use Rattle.rustsec_report.specs.declared.report.Report.{Report}
use Rattle.rustsec_report.specs.declared.info.VulnerabilityInfo.{VulnerabilityInfo}
use Rattle.rustsec_report.specs.declared.settings.Settings.{Settings}
use Rattle.rustsec_report.specs.declared.warning.Warning.{Warning}

-- ---- what settings ask for

-- the query for vulnerabilities: that of published packages, with the settings' platforms and least severity
abbrev pub query_of : Settings → Asked
query_of s = record crate_scope { severity = s.severity; target_arch = s.target_arch; target_os = s.target_os }

-- the same query for informational advisories
abbrev pub informational_query : Settings → Asked
informational_query s = record (query_of s) { informational = Some true }

-- whether an ID is one of these
abbrev pub is_among : List IdValue → IdValue → Bool
is_among ids id = list_any (λ i. id_eq i id) ids

-- whether two informational kinds are the same; other kinds are compared by their texts
abbrev pub same_kind : Informational → Informational → Bool
same_kind informational.Notice informational.Notice = true
same_kind informational.Unmaintained informational.Unmaintained = true
same_kind informational.Unsound informational.Unsound = true
same_kind (informational.Other s) (informational.Other t) = pointwise nat_eq s t
same_kind _ _ = false

-- whether the settings ask for warnings of an informational kind
abbrev pub is_wanted : Settings → Informational → Bool
is_wanted s kind = list_any (λ w. same_kind w kind) s.informational_warnings

-- the kind of the warnings that an informational kind gives, if the settings ask for it; another kind gives none
abbrev pub wanted_kind : Settings → Informational → Option WarningKind
wanted_kind s kind = if is_wanted s kind then kind_of_warnings kind else None

-- ---- what is found

-- all pairs that a query finds, as vulnerabilities
abbrev pub found : List Advisory → List PackageValue → Asked → List Vulnerability
found advisories packages q = map as_vulnerability (pairs advisories packages q)

-- those whose advisory is not ignored
abbrev pub without : List IdValue → List Vulnerability → List Vulnerability
without ignored vs = filter (λ v. not (is_among ignored v.advisory.id)) vs

-- the vulnerabilities of a report
abbrev pub vulnerabilities : List Advisory → List PackageValue → Settings → List Vulnerability
vulnerabilities advisories packages s = without s.ignore (found advisories packages (query_of s))

-- ---- warnings

-- whether a pair gives a warning of a kind: the one that its advisory's informational kind gives
abbrev pub gives : Settings → WarningKind → Vulnerability → Bool
gives s k v = option_eq (sameb warning_kind) (option_and_then (wanted_kind s) v.advisory.informational) (Some k)

-- a pair as a warning
abbrev pub as_warning : WarningKind → Vulnerability → Warning
as_warning k v = record {
  kind = k;
  «package» = v.«package»;
  advisory = Some v.advisory;
  affected = v.affected;
  versions = Some v.versions;
}

-- the warnings of a kind, in the order of the pairs
abbrev pub warnings_of_kind : Settings → List Vulnerability → WarningKind → List Warning
warnings_of_kind s vs k = map (as_warning k) (filter (gives s k) vs)

-- whether a list has an element
abbrev pub has_some : List Warning → Bool
has_some [] = false
has_some (w ∷ ws) = true

-- lists of warnings that are not empty, each with its kind
abbrev pub present : List (WarningKind × List Warning) → List (WarningKind × List Warning)
present es = filter (λ e. has_some e.1) es

-- each kind with its warnings, by the order of kinds; a kind without warnings is left out
unfoldable pub warnings_by_kind : Settings → List Vulnerability → List (WarningKind × List Warning)
warnings_by_kind s vs = present (map (λ k. (k, warnings_of_kind s vs k)) warning_kinds)

-- the warnings of a report
abbrev pub warnings : List Advisory → List PackageValue → Settings → List (WarningKind × List Warning)
warnings advisories packages s = warnings_by_kind s (without s.ignore (found advisories packages (informational_query s)))

-- ---- the report

-- a list of vulnerabilities with its length, and whether there are any
abbrev pub info_of : List Vulnerability → VulnerabilityInfo
info_of list = record { found = not (length list == 0); count = length list; list = list }

-- the report of a lockfile's packages
abbrev pub report_of : List Advisory → List PackageValue → Settings → Report
report_of advisories packages s = record {
  lockfile = record { dependency_count = length packages };
  settings = s;
  vulnerabilities = info_of (vulnerabilities advisories packages s);
  warnings = warnings advisories packages s;
}
