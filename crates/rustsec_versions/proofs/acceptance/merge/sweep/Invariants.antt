use Rattle.std.proofs.Common.{◌≡◌, ◌++◌, drop, map}
use Rattle.std.specs.Result.{result_map_both}
use Rattle.rustsec_versions.specs.acceptance.Sweep.{swept}
use Rattle.rustsec_versions.specs.Views.{endpoint_of}
use Rattle.rustsec_versions.proofs.acceptance.merge.sweep.Given as goal

-- the merged intervals so far, and those from the current one on
abbrev pub invariant-loop-next : goal.invariant-loop-next
invariant-loop-next l =
    result_map_both (λ ms. l.done.items ++ ms) (λ p. p) (swept (endpoint_of l.start) l.last (map (λ x. x.now) (drop l.next-index l.others)))
    ≡ swept l.first.interval.start l.first (map (λ x. x.now) l.others)
