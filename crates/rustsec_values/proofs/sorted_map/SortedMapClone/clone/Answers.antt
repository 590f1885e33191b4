use Rattle.std.proofs.Common.{◌∙◌}
use Rattle.std.proofs.lemmas.Map.Entries.{entries_from_clone}
use Rattle.rustsec_values.proofs.sorted_map.SortedMapClone.clone.Goals as goal

pub returns : goal.returns
returns g c = record {
  cases = entries_from_clone _ _ g.met.K.ExactClone.exact g.met.V.ExactClone.exact _ _ c.in_ok-map.ensures.cases ∙ c.self.view_is;
}
