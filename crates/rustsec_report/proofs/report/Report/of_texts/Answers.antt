use Rattle.std.proofs.lemmas.Result.{IfOk-weaker}
use Rattle.rustsec_report.proofs.EndToEnd.{report-of-text}
use Rattle.rustsec_report.proofs.FurtherFiles.{adds_its_own}
use Rattle.rustsec_report.proofs.report.Report.of_texts.Goals as goal

pub returns-clause-ok : goal.returns-clause-ok
returns-clause-ok c =
    IfOk-weaker c.generate.result _ _
    (λ r h. report-of-text c.args.files.now c.args.lockfile.now c.args.settings.now c.in_ok-advisories.advisories c.in_ok-lockfile.lockfile.packages r
    c.in_ok-advisories.ensures.ok c.in_ok-lockfile.ensures.ok h) c.generate.ensures.chain

pub returns-clause-further : goal.returns-clause-further
returns-clause-further c =
    IfOk-weaker c.generate.result _ _
    (λ r h. adds_its_own c.args.files.now c.args.lockfile.now c.args.settings.now c.in_ok-advisories.advisories c.in_ok-lockfile.lockfile.packages r
    c.in_ok-advisories.ensures.ok c.in_ok-lockfile.ensures.ok h) c.generate.ensures.ok
