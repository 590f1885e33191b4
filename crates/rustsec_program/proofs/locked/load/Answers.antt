use Rattle.std.proofs.lemmas.Result.{IfErr-weaker}
use Rattle.rustsec_program.proofs.Kept.{loaded-with, unloaded-with}
use Rattle.rustsec_program.proofs.locked.load.Goals as goal

pub returns-clause-ok : goal.returns-clause-ok
returns-clause-ok g c =
    loaded-with _ _ c.locked_at.ensures.same _ c.in_ok-locked.locked c.with_others.result c.in_ok-locked.ensures.ok
    c.with_others.ensures.locked c.with_others.ensures.baseline c.with_others.ensures.yanked

pub returns-clause-err : goal.returns-clause-err
returns-clause-err g c =
    IfErr-weaker c.with_others.result _ _
    (λ e h. unloaded-with _ _ c.locked_at.ensures.same _ c.in_ok-locked.locked e c.in_ok-locked.ensures.ok h) c.with_others.ensures.err
