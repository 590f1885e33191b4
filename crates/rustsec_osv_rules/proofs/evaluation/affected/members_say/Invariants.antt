use Rattle.std.proofs.Common.{map, take}
use Rattle.semver.specs.Identifiers.{parts_of}
use Rattle.rustsec_osv_rules.specs.evaluation.Document.{IsMemberAnswer}
use Rattle.rustsec_osv_rules.proofs.evaluation.Sorted.{AreSoFar}
use Rattle.rustsec_osv_rules.proofs.evaluation.affected.members_say.Given as goal

-- the answers of the members so far
abbrev pub invariant-loop-member : goal.invariant-loop-member
invariant-loop-member l = AreSoFar (IsMemberAnswer (parts_of l.version)) (map (λ m. m.now) (take l.member-index l.members)) l.affected
