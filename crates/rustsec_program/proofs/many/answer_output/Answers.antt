use Rattle.std.proofs.lemmas.Result.{IfOk-weaker}
use Rattle.rustsec_program.specs.Checked.{refused}
use Rattle.rustsec_program.proofs.many.answer_output.Goals as goal

pub returns-in-Err-clause-ok : goal.returns-in-Err-clause-ok
returns-in-Err-clause-ok g c =
    IfOk-weaker c.refused_output.result _ _ (λ o h. refused c.in-Err.error c.in-Err.ensures.err h.0 h.1) c.refused_output.ensures
