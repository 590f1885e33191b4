use Rattle.std.proofs.lemmas.Result.{IfOk-weaker}
use Rattle.rustsec_report.proofs.ByKind.{generated}
use Rattle.rustsec_report.proofs.EndToEnd.{report-chain}
use Rattle.rustsec_report.proofs.ReportedAdvisories.{held-of}
use Rattle.rustsec_report.proofs.ReportLaws.{add_their_own, find_the_same, lacks_only}
use Rattle.rustsec_report.proofs.report.Report.generate.Goals as goal

pub returns-clause-ok : goal.returns-clause-ok
returns-clause-ok c =
    IfOk-weaker c.to_report.result _ _ (λ copy made. generated c.in_ok-report.report copy c.args.database.now c.args.lockfile.now.packages c.args.settings.now c.in_ok-report.ensures.ok made) c.to_report.ensures.ok

pub returns-clause-holds : goal.returns-clause-holds
returns-clause-holds c =
    IfOk-weaker c.to_report.result _ _ (λ copy made. held-of copy c.args.database.now c.args.lockfile.now.packages c.args.settings.now
    (generated c.in_ok-report.report copy c.args.database.now c.args.lockfile.now.packages c.args.settings.now c.in_ok-report.ensures.ok made)) c.to_report.ensures.ok

pub returns-clause-chain : goal.returns-clause-chain
returns-clause-chain c =
    IfOk-weaker c.to_report.result _ _ (λ copy made. report-chain copy c.args.database.now c.args.lockfile.now.packages c.args.settings.now
    (generated c.in_ok-report.report copy c.args.database.now c.args.lockfile.now.packages c.args.settings.now c.in_ok-report.ensures.ok made)) c.to_report.ensures.ok

pub returns-clause-ignored : goal.returns-clause-ignored
returns-clause-ignored c =
    IfOk-weaker c.to_report.result _ _ (λ copy made. λ id. lacks_only id copy c.args.database.now c.args.lockfile.now.packages c.args.settings.now
    (generated c.in_ok-report.report copy c.args.database.now c.args.lockfile.now.packages c.args.settings.now c.in_ok-report.ensures.ok made)) c.to_report.ensures.ok

pub returns-clause-further : goal.returns-clause-further
returns-clause-further c =
    IfOk-weaker c.to_report.result _ _ (λ copy made. λ others. add_their_own copy c.args.database.now others c.args.lockfile.now.packages c.args.settings.now
    (generated c.in_ok-report.report copy c.args.database.now c.args.lockfile.now.packages c.args.settings.now c.in_ok-report.ensures.ok made)) c.to_report.ensures.ok

pub returns-clause-elsewhere : goal.returns-clause-elsewhere
returns-clause-elsewhere c =
    IfOk-weaker c.to_report.result _ _ (λ copy made. find_the_same copy c.args.database.now c.args.lockfile.now.packages c.args.settings.now
    (generated c.in_ok-report.report copy c.args.database.now c.args.lockfile.now.packages c.args.settings.now c.in_ok-report.ensures.ok made)) c.to_report.ensures.ok
