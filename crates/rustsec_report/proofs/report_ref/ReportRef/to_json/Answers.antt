use Rattle.std.proofs.Common.{◌∙◌, rules, sym}
use Rattle.rustsec_report.proofs.ReportText.{report-is}
use Rattle.rustsec_report.proofs.report_ref.ReportRef.to_json.Goals as goal

pub returns-clause-ok : goal.returns-clause-ok
returns-clause-ok c = search rules ∙ sym (report-is c.args.self.now)
