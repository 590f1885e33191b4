use Rattle.std.proofs.Common.{◌∙◌, ◌-◌, ap, arith, refl, sym}
use Rattle.rustsec_lock.specs.Score.{mul}
use Rattle.rustsec_lock.proofs.ScoreSteps.{multiplied_more, multiplied_none}
use Rattle.rustsec_lock.proofs.score.power.Goals as goal

pub loop-step-init : goal.loop-step-init
loop-step-init c = record {
  value = sym (multiplied_none (c.args.iss - 20000000000) (c.args.iss - 20000000000));
  bound = omega arith;
  base = omega arith;
  from = refl;
}

pub loop-step-preserved : goal.loop-step-preserved
loop-step-preserved c = record {
  value = c.mul-power.ensures.value ∙ (ap (λ p. mul p (c.args.iss - 20000000000)) c.loop-step.invariant.value
      ∙ sym (multiplied_more c.loop-step._step (c.args.iss - 20000000000) (c.args.iss - 20000000000)));
  bound = omega (arith, c.mul-power.ensures.bound);
  base = omega arith;
  from = refl;
}
