use Rattle.std.proofs.Common.{◌≡◌, map, take}
use Rattle.rustsec_versions.specs.ranges.Complement.{cut}
use Rattle.rustsec_versions.proofs.ranges.ranges_of.Given as goal

-- the ranges of the gaps so far
abbrev pub invariant-loop-gap : goal.invariant-loop-gap
invariant-loop-gap l = l.all.items ≡ map cut (take l.gap-index l.complement)
