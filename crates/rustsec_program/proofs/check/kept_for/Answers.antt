use Rattle.std.proofs.Common.{◌∙◌}
use Rattle.std.proofs.lemmas.Result.{IfOk-weaker}
use Rattle.rustsec_program.proofs.check.kept_for.Goals as goal

pub returns-clause-ok : goal.returns-clause-ok
returns-clause-ok g c =
    IfOk-weaker c.open_with.result _ _
    (λ k h. (c.in_ok-bearing.bearing, (h, IfOk-weaker c.args.read.now _ _ (λ l e. c.in_ok-bearing.ensures.ok ∙ e) c.packages_read.ensures.ok)))
    c.open_with.ensures.ok
