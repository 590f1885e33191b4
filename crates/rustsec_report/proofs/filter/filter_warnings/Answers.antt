use Rattle.std.proofs.Common.{rules, ◌≡◌, map}
use Rattle.std.proofs.lemmas.Map.Made.{map_same_pairs}
use Rattle.std.specs.List.{filter}
use Rattle.rustsec_report.specs.Filter.{applicable}
use Rattle.rustsec_report.proofs.filter.filter_warnings.Goals as goal

pub returns : goal.returns
returns c =
    map_same_pairs _ (λ v. filter (λ w. applicable c.args.test.now.format w.affected) v) _ (λ k v b w f' t. search rules) _ _ c.retain.ensures
