use Rattle.std.proofs.Common.{◌∙◌, sym}
use Rattle.std.proofs.lemmas.Result.{IfOk-weaker}
use Rattle.rustsec_commands.specs.command.Reports.{audited}
use Rattle.rustsec_commands.proofs.lemmas.command.Refused.{misread-by}
use Rattle.rustsec_commands.proofs.command.audit.audit.Goals as goal

pub returns-in-Ok-clause-ok : goal.returns-in-Ok-clause-ok
returns-in-Ok-clause-ok g c =
    let is = rw c.denies_warnings.ensures at c.options_output.ensures.ok in
    IfOk-weaker c.options_output.result _ _ (λ o h. audited c.in-Some.options c.in-Ok.ignored (sym c.in_ok-options.ensures ∙ c.in-Some.is) c.in-Ok.ensures.ok h) is

pub returns-clause-ok : goal.returns-clause-ok
returns-clause-ok g c =
    IfOk-weaker c.refusal_output.result _ _
    (λ o h. misread-by _ c.args.root.now c.args.lock.now _ o c.in-Some.options c.in-Err.error (sym c.in_ok-options.ensures ∙ c.in-Some.is)
    c.in-Err.ensures.err h.0 h.1) c.refusal_output.ensures
