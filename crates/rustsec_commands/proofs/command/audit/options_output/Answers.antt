use Rattle.std.proofs.lemmas.Result.{IfOk-weaker}
use Rattle.rustsec_commands.proofs.lemmas.command.Refused.{report-of-paths}
use Rattle.rustsec_commands.specs.command.Reports.{refused, reported}
use Rattle.rustsec_commands.proofs.command.audit.options_output.Goals as goal

pub returns-in-Ok-clause-ok : goal.returns-in-Ok-clause-ok
returns-in-Ok-clause-ok g c =
    let by = rw c.in_ok-settings.ensures at c.in_ok-report-in-Ok.ensures in
    let is = report-of-paths (g.F.Folders.allowed c.args.folders.now) c.args.root.now c.args.lock.now _ _ c.in_ok-report-in-Ok.report c.in-Ok.ensures.ok by in
    IfOk-weaker c.advised_output.result _ _ (λ o h. reported c.in_ok-report-in-Ok.report is h) c.advised_output.ensures

pub returns-clause-ok : goal.returns-clause-ok
returns-clause-ok g c =
    IfOk-weaker c.refusal_output.result _ _ (λ o h. refused c.in-Err.error c.in-Err.ensures.err h.0 h.1) c.refusal_output.ensures
