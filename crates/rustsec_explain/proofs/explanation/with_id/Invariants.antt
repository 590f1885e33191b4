use Rattle.std.proofs.Common.{◌≡◌, drop}
use Rattle.std.specs.List.{find}
use Rattle.rustsec_explain.specs.Explained.{has_id}
use Rattle.rustsec_explain.proofs.explanation.with_id.Given as goal

-- the advisories that are left decide
abbrev pub invariant-loop-advisory : goal.invariant-loop-advisory
invariant-loop-advisory l = find (has_id l.id) l.advisories ≡ find (has_id l.id) (drop l.advisory-index l.advisories)
