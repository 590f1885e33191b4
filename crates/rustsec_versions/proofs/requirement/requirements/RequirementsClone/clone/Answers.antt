use Rattle.std.proofs.Common.{◌∙◌, rules}
use Rattle.rustsec_values.proofs.Copies.{map-clones}
use Rattle.semver.specs.Identifiers.{comparator_view}
use Rattle.rustsec_versions.specs.Views.{comparators_of}
use Rattle.rustsec_versions.proofs.requirement.requirements.RequirementsClone.clone.Goals as goal

pub returns : goal.returns
returns c = record {
  cases =
      map-clones _ comparators_of (λ x y h. map-clones _ comparator_view (λ a b e. search rules) x.comparators.items y.comparators.items h.0) _ _ c.in_ok-list.ensures.cases.0
      ∙ c.self.view_is;
}
