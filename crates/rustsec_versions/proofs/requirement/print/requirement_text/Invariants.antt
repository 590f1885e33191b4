use Rattle.std.proofs.Common.{◌≡◌, ◌++◌, drop, map, string_bytes}
use Rattle.semver.specs.Identifiers.{comparator_view}
use Rattle.rustsec_versions.specs.requirement.RequirementText.{more_text, requirement_text}
use Rattle.rustsec_versions.proofs.requirement.print.requirement_text.Given as goal

abbrev pub invariant-loop-c : goal.invariant-loop-c
invariant-loop-c l =
    string_bytes l.text ++ more_text (map comparator_view (drop l.c-index l.others)) ≡ requirement_text (map comparator_view l.req.comparators.items)
