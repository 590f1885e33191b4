use Rattle.std.proofs.Common.{◌≡◌, ◌++◌, codes, string_bytes, sym, ◌∙◌, rules, arith}
use Rattle.semver.specs.Identifiers.{comparator_view}
use Rattle.rustsec_versions.specs.requirement.RequirementText.{comparator_text}
use Rattle.rustsec_versions.proofs.lemmas.requirement.MoreText.{more_end, more_step}
use Rattle.rustsec_versions.proofs.requirement.print.requirement_text.Goals as goal

pub loop-c-preserved : goal.loop-c-preserved
loop-c-preserved c =
    let new : string_bytes c.push_comparator-in-loop-c.new.text ≡ (string_bytes c.loop-c.text ++ codes ", ") ++ comparator_text (comparator_view c.c-item.result) = search rules in
    more_step _ _ _ _ c.c-item.result c.loop-c-test.true c.c-item.is new ∙ c.loop-c.invariant

pub returns-clause-ok : goal.returns-clause-ok
returns-clause-ok c = sym (more_end (string_bytes c.loop-c.text) c.in-Some.others.now c.loop-c.c-index (omega arith)) ∙ c.loop-c.invariant
