-- Warnings by their kinds, as a map holds them.
use Rattle.std.specs.Prelude.{List, [], ◌∷◌}
use Rattle.std.specs.BTreeMap.{insert_entry}
use Rattle.rustsec_texts.specs.declared.warning_kind.WarningKind.{WarningKind}
use Rattle.rustsec_texts.specs.contracts.warning_kind.WarningKindOrd.TheImpl.{ghosts as kind_order}
use Rattle.rustsec_report.specs.declared.report.Report.{Report}
use Rattle.rustsec_report.specs.declared.warning.Warning.{Warning}

-- warnings with those of further kinds; a later list of a kind replaces an earlier one
abbrev pub with_kinds : List (WarningKind × List Warning) → List (WarningKind × List Warning) → List (WarningKind × List Warning)
with_kinds es [] = es
with_kinds es ((k, ws) ∷ rest) = with_kinds (insert_entry kind_order.cmp es k ws) rest

-- a report whose warnings are in a map of their kinds
abbrev pub with_map_of_kinds : Report → Report
with_map_of_kinds r = record {
  lockfile = r.lockfile;
  settings = r.settings;
  vulnerabilities = r.vulnerabilities;
  warnings = with_kinds [] r.warnings;
}
