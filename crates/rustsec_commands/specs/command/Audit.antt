-- The text that the command `audit` writes for a report, and its status.
use Rattle.std.specs.Prelude.{ℕ, ◌==◌, ◌++◌, ◌&&◌, ◌||◌, Bool, not, List, Option, Some, None, codes, flat_map, length, map, if◌then◌else◌}
use Rattle.std.specs.Fmt.{decimal}
use Rattle.std.specs.List.{sum}
use Rattle.semver.specs.Identifiers.{parts_text}
use Rattle.rustsec_lock.specs.Package.{PackageValue}
use Rattle.rustsec_texts.specs.WarningKinds.{warning_kind_name}
use Rattle.rustsec_texts.specs.declared.warning_kind.WarningKind.{WarningKind}
use Rattle.rustsec_advisory.specs.declared.metadata.Metadata.{Metadata}
use Rattle.rustsec_database.specs.declared.vulnerability.Vulnerability.{Vulnerability}
use Rattle.rustsec_report.specs.declared.report.Report.{Report}
use Rattle.rustsec_report.specs.declared.warning.Warning.{Warning}
use Rattle.rustsec_commands.specs.Output.{Output}

-- the name and the version of a package, which end a line
abbrev pub package_words : PackageValue → List ℕ
package_words p = p.name ++ (codes " " ++ (parts_text p.version ++ codes "\n"))

-- the line for a vulnerability
abbrev pub vulnerability_line : Vulnerability → List ℕ
vulnerability_line v = codes "vulnerability " ++ (v.advisory.id.text ++ (codes " " ++ package_words v.«package»))

-- the ID of a warning's advisory, or a dash if the warning has no advisory
abbrev pub id_or_dash : Option Metadata → List ℕ
id_or_dash None = codes "-"
id_or_dash (Some m) = m.id.text

-- the line for a warning of a kind
abbrev pub warning_line : WarningKind → Warning → List ℕ
warning_line k w = codes "warning " ++ (warning_kind_name k ++ (codes " " ++ (id_or_dash w.advisory ++ (codes " " ++ package_words w.«package»))))

-- the lines for the warnings of a kind
abbrev pub kind_lines : WarningKind × List Warning → List ℕ
kind_lines e = flat_map (warning_line e.0) e.1

-- the number of all warnings
abbrev pub warning_count : List (WarningKind × List Warning) → ℕ
warning_count es = sum (map (λ e. length e.1) es)

-- the last line, which counts vulnerabilities and warnings
abbrev pub count_line : ℕ → ℕ → List ℕ
count_line n m = decimal n ++ (codes " vulnerabilities, " ++ (decimal m ++ codes " warnings\n"))

-- a line for each vulnerability, one for each warning by kind, and one that counts both
abbrev pub audit_text : Report → List ℕ
audit_text r =
    flat_map vulnerability_line r.vulnerabilities.list
    ++ (flat_map kind_lines r.warnings ++ count_line (length r.vulnerabilities.list) (warning_count r.warnings))

-- whether a report is bad: there is a vulnerability, or a warning and warnings are denied
abbrev pub is_bad : Bool → Report → Bool
is_bad deny r = not (length r.vulnerabilities.list == 0) || (deny && not (warning_count r.warnings == 0))

-- the text for a report, and status 1 if it is bad
abbrev pub audit_output : Bool → Report → Output
audit_output deny r = record { text = audit_text r; status = if is_bad deny r then 1 else 0 }
