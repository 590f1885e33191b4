use Rattle.std.proofs.Common.{◌∙◌}
use Rattle.std.specs.Cmp.Lexicographic.{pointwise}
use Rattle.rustsec_versions.specs.Equality.{comparator_eq}
use Rattle.rustsec_versions.specs.Views.{comparators_of}
use Rattle.rustsec_versions.proofs.lemmas.lists.Compared.{pointwise-map, requirement-eq}
use Rattle.rustsec_versions.proofs.requirement.requirements.RequirementsPartialEq.eq.Goals as goal

pub returns : goal.returns
returns c =
    rw (← c.self.view_is, ← c.other.view_is)
    (c.eq.ensures ∙ pointwise-map _ (pointwise comparator_eq) comparators_of requirement-eq c.self.inside.list.items c.other.inside.list.items)
