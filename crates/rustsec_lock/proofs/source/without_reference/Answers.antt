use Rattle.std.proofs.Common.{◌==◌}
use Rattle.rustsec_lock.proofs.TwoMarks.{before-twice}
use Rattle.rustsec_lock.proofs.source.without_reference.Goals as goal

pub returns : goal.returns
returns c = rw (c.up_to-2.ensures, c.up_to.ensures) (before-twice (λ b. b == 63) (λ b. b == 35) c.args.address.now)
