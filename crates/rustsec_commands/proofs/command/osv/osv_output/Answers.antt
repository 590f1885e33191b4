use Rattle.std.proofs.lemmas.Result.{IfOk-weaker}
use Rattle.rustsec_commands.specs.command.Osv.{exported, refused}
use Rattle.rustsec_commands.proofs.command.osv.osv_output.Goals as goal

pub returns-in-Ok-clause-ok : goal.returns-in-Ok-clause-ok
returns-in-Ok-clause-ok g c =
    IfOk-weaker c.document_output.result _ _ (λ o h. exported c.in-Ok.document c.in-Ok.ensures.ok h) c.document_output.ensures

pub returns-in-Err-clause-ok : goal.returns-in-Err-clause-ok
returns-in-Err-clause-ok g c =
    IfOk-weaker c.refusal_output.result _ _ (λ o h. refused c.in-Err.error c.in-Err.ensures.err h.0 h.1) c.refusal_output.ensures
