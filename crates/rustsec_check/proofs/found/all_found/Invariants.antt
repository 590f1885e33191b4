use Rattle.std.proofs.Common.{◌≡◌, take}
use Rattle.rustsec_check.specs.Pairs.{found}
use Rattle.rustsec_check.proofs.found.all_found.Given as goal

-- the pairs of the packages so far
abbrev pub invariant-loop-place : goal.invariant-loop-place
invariant-loop-place l = l.found.items ≡ found l.database (take l.place l.lockfile.packages) l.settings
