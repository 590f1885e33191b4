use Rattle.std.proofs.lemmas.List.Sorted.{IsPermutation-map}
use Rattle.rustsec_versions.proofs.acceptance.tagged.by_start.Goals as goal

pub returns-clause-same : goal.returns-clause-same
returns-clause-same c = rw (← c.in_ok-sorted.ensures) (IsPermutation-map (λ x. x.now) _ _ c.sort_by_start.ensures.same)
