use Rattle.std.proofs.Common.{◌≡◌, map, take}
use Rattle.std.specs.List.{filter}
use Rattle.rustsec_osv_rules.specs.evaluation.Document.{is_about}
use Rattle.rustsec_osv_rules.proofs.evaluation.affected.members_about.Given as goal

-- those of the members so far
abbrev pub invariant-loop-member : goal.invariant-loop-member
invariant-loop-member l =
    map (λ m. m.now) l.about.items ≡ filter (is_about l.question.ecosystem.now l.question.name.now) (take l.member-index l.members)
