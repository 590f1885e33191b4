use Rattle.std.proofs.Common.{◌∙◌, ap, sym}
use Rattle.std.specs.Prelude.{option_map}
use Rattle.rustsec_registry.specs.Yanked.{seen}
use Rattle.rustsec_registry.proofs.Walk.{step-none, step-some}
use Rattle.rustsec_registry.proofs.yanked_status.verdicts.Goals as goal
use Rattle.rustsec_registry.proofs.yanked_status.verdicts.Goals.{in-Some+in_ok-push, in_default}

pub loop-package-preserved : goal.loop-package-preserved
loop-package-preserved c =
    elim c.match-branch-2.branch [
      | in-Some+in_ok-push w ↦ rw (w.answers-is, w.in_ok-push.ensures.ok)
          (step-some c.args.kept.now c.args.packages.now c.loop-package.package-index c.package-item.result c.loop-package.answers w.in-Some.answer
          c.loop-package-test.true c.package-item.is c.loop-package.invariant (ap (option_map seen) (sym w.in-Some.is) ∙ c.in_ok-answer.ensures.ok))
      | in_default w ↦ rw w.answers-is
          (step-none c.args.kept.now c.args.packages.now c.loop-package.package-index c.package-item.result c.loop-package.answers
          c.loop-package-test.true c.package-item.is c.loop-package.invariant (ap (option_map seen) (sym w.in_default.is) ∙ c.in_ok-answer.ensures.ok))
    ]
