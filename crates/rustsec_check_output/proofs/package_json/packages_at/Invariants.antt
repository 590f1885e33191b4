use Rattle.std.proofs.Common.{◌≡◌, map, take}
use Rattle.rustsec_check_output.specs.CheckTree.{packages_at}
use Rattle.rustsec_check_output.proofs.package_json.packages_at.Given as goal

abbrev pub invariant-loop-place : goal.invariant-loop-place
invariant-loop-place l = map (λ p. p.now) l.found.items ≡ packages_at l.packages (take l.place-index l.places)
