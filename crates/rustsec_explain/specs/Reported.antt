-- Reports without findings.
use Rattle.std.specs.Prelude.{◌≡◌, []}
use Rattle.rustsec_report.specs.declared.report.Report.{Report}

-- a report that lists no vulnerability and no warning
abbrev pub ListsNothing : Report → Type 0
ListsNothing r = (r.vulnerabilities.list ≡ []) × (r.warnings ≡ [])
