use Rattle.std.proofs.Common.{◌∙◌, sym}
use Rattle.std.proofs.lemmas.Result.{IfOk-weaker}
use Rattle.rustsec_program.specs.Explain.{explained, refused}
use Rattle.rustsec_program.proofs.explain.explain.Goals as goal

pub returns-in-Ok-clause-ok : goal.returns-in-Ok-clause-ok
returns-in-Ok-clause-ok g c = explained c.in-Some.options (sym c.in_ok-options.ensures ∙ c.in-Some.is) c.in-Ok.ensures.ok

pub returns-clause-ok : goal.returns-clause-ok
returns-clause-ok g c =
    IfOk-weaker c.refusal_output.result _ _
    (λ o h. refused c.in-Some.options c.in-Err.error (sym c.in_ok-options.ensures ∙ c.in-Some.is) c.in-Err.ensures.err h.0 h.1) c.refusal_output.ensures
