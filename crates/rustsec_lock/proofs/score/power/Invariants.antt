use Rattle.std.proofs.Common.{◌≡◌, ◌≤◌}
use Rattle.rustsec_lock.specs.Score.{multiplied, one, power_base}
use Rattle.rustsec_lock.proofs.score.power.Given as goal

abbrev pub invariant-loop-step : goal.invariant-loop-step
invariant-loop-step l = record {
  value : l.power ≡ multiplied l._step l.x l.x;
  bound : l.power ≤ one;
  base : l.x ≤ one;
  from : l.x ≡ power_base l.fn.iss;
}
