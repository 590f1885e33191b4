use Rattle.std.proofs.Common.{refl}
use Rattle.semver.specs.Order.{strip_zeros}
use Rattle.rustsec_versions.proofs.acceptance.tagged.compare_starts.Goals as goal

pub returns-in-Unbounded-Unbounded : goal.returns-in-Unbounded-Unbounded
unfolding strip_zeros
returns-in-Unbounded-Unbounded c = rw (c.in-Unbounded-Unbounded.is-0, c.in-Unbounded-Unbounded.is-1) refl
