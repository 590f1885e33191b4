use Rattle.std.proofs.Common.{◌≡◌, map, take}
use Rattle.rustsec_osv_rules.specs.evaluation.Pairs.{normalized_member}
use Rattle.rustsec_osv_rules.proofs.evaluation.pairs.normalized_members.Given as goal

-- the members so far
abbrev pub invariant-loop-member : goal.invariant-loop-member
invariant-loop-member l = l.all ≡ map normalized_member (take l.member-index l.members)
