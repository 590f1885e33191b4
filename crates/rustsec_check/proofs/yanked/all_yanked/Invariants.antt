use Rattle.std.proofs.Common.{take}
use Rattle.rustsec_check.specs.Yanked.{AreYankedOf}
use Rattle.rustsec_check.proofs.yanked.all_yanked.Given as goal

-- the yanked ones of the packages so far
abbrev pub invariant-loop-place : goal.invariant-loop-place
invariant-loop-place l = AreYankedOf l.subject l.yanked (take l.place l.packages) l.all.items
