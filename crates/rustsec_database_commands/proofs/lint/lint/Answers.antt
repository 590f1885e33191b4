use Rattle.std.proofs.lemmas.Result.{IfOk-weaker}
use Rattle.rustsec_database_commands.proofs.Outputs.{by-asked, misused}
use Rattle.rustsec_database_commands.proofs.lint.lint.Goals as goal

pub returns-in_default-clause-ok : goal.returns-in_default-clause-ok
returns-in_default-clause-ok g c = IfOk-weaker c.usage_output.result _ _ (λ o h. misused _ _ _ o c.in_default.ensures h) c.usage_output.ensures

pub returns-in-Ok-clause-ok : goal.returns-in-Ok-clause-ok
returns-in-Ok-clause-ok g c = by-asked _ _ _ _ _ c.in-Some.ensures c.in-Ok.ensures.ok
