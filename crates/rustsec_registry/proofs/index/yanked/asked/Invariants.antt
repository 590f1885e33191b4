use Rattle.std.proofs.Common.{◌≡◌, take}
use Rattle.rustsec_registry.specs.index.YankedPackages.{asked}
use Rattle.rustsec_registry.proofs.index.yanked.asked.Given as goal

-- the copies so far are of the packages so far
abbrev pub invariant-loop-package : goal.invariant-loop-package
invariant-loop-package l = l.copies ≡ asked (take l.package-index l.packages)
