use Rattle.std.proofs.Common.{inr}
use Rattle.std.proofs.lemmas.Result.{IfErr-weaker}
use Rattle.rustsec_commands.proofs.command.osv.exported_document.Goals as goal

pub returns-clause-err : goal.returns-clause-err
returns-clause-err g c =
    IfErr-weaker c.from_rustsec.result _ _ (λ e h. inr (c.in_ok-advisory.advisory, (c.in_ok-advisory.ensures.ok, h))) c.from_rustsec.ensures.err
