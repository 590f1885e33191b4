use Rattle.std.proofs.Common.{◌≡◌, map, take}
use Rattle.rustsec_check.specs.Pairs.{as_ignored, left_out}
use Rattle.rustsec_check.proofs.findings.ignored_of.Given as goal

-- those of the pairs so far
abbrev pub invariant-loop-pair : goal.invariant-loop-pair
invariant-loop-pair l = l.ignored.items ≡ map as_ignored (left_out l.ids (take l.pair-index l.found))
