-- The JSON text of a report, part by part, is the text of its tree.
use Rattle.std.proofs.Common.{◌≡◌, ◌∙◌, ◌++◌, ℕ, List, append_assoc, sym}
use Rattle.std.specs.Prelude.{codes}
use Rattle.serde_json.specs.Data.{boolean, number, unsigned}
use Rattle.serde_json.specs.Written.{compact_text}
use Rattle.serde_json.proofs.OnLiterals.{serde_json_on_literals}
use Rattle.rustsec_report.specs.ReportText.{beginning_text, ending_text, key_text, vulnerabilities_text}
use Rattle.rustsec_report.specs.Trees.{kinds_of_warnings, lockfile_tree, object_of, report_tree, settings_tree, vulnerabilities_tree, vulnerability_tree, with_members}
use Rattle.rustsec_report.specs.declared.info.VulnerabilityInfo.{VulnerabilityInfo}
use Rattle.rustsec_report.specs.declared.report.Report.{Report}
use Rattle.rustsec_report.specs.declared.report_json.Key.TheVariants as key
use Rattle.rustsec_report.proofs.KindTexts.{list-is}

vulnerabilities-are : (info : VulnerabilityInfo) → compact_text (vulnerabilities_tree info) ≡ vulnerabilities_text info
unfolding vulnerabilities_text with_members serde_json_on_literals
vulnerabilities-are info = λ i.
    codes "{\"count\":" ++ (compact_text (number (unsigned info.count))
    ++ (codes ",\"found\":" ++ (compact_text (boolean info.found) ++ (codes ",\"list\":" ++ (list-is vulnerability_tree info.list i ++ codes "}")))))

joined : (k a l b rest : List ℕ) → (k ++ (a ++ (l ++ b))) ++ rest ≡ k ++ (a ++ (l ++ (b ++ rest)))
joined k a l b rest = simp append_assoc

pub report-is : (r : Report) → compact_text (report_tree r) ≡ beginning_text r ++ ending_text r
unfolding report_tree beginning_text ending_text key_text with_members serde_json_on_literals
report-is r =
    let pieces : compact_text (report_tree r) ≡ key_text key.Lockfile ++ (compact_text (lockfile_tree r.lockfile) ++ (key_text key.Settings ++ (compact_text (settings_tree r.settings) ++ ending_text r))) =
    λ i. key_text key.Lockfile ++ (compact_text (lockfile_tree r.lockfile)
    ++ (key_text key.Settings ++ (compact_text (settings_tree r.settings)
    ++ (key_text key.Vulnerabilities ++ (vulnerabilities-are r.vulnerabilities i
    ++ (key_text key.Warnings ++ (compact_text (object_of (kinds_of_warnings r.warnings)) ++ codes "}"))))))) in
    pieces ∙ sym (joined (key_text key.Lockfile) (compact_text (lockfile_tree r.lockfile)) (key_text key.Settings) (compact_text (settings_tree r.settings)) (ending_text r))
