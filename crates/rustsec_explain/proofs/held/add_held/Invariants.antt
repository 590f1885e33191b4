use Rattle.std.proofs.Common.{◌≡◌, ◌++◌, drop, map}
use Rattle.semver.specs.Identifiers.{parts_of}
use Rattle.rustsec_versions.specs.Views.{comparators_of}
use Rattle.rustsec_explain.specs.Reasons.{applying, held_by, requirement_rows}
use Rattle.rustsec_explain.proofs.held.add_held.Given as goal

-- the reasons so far and those of the requirements that are left
abbrev pub invariant-loop-place : goal.invariant-loop-place
invariant-loop-place l =
    l.reasons ++ applying (requirement_rows (held_by l.is_patched) (parts_of l.version) l.place (map comparators_of (drop l.place l.requirements)))
    ≡ l.fn.reasons ++ applying (requirement_rows (held_by l.is_patched) (parts_of l.version) 0 (map comparators_of l.requirements))
