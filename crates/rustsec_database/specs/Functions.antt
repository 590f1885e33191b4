-- The affected functions of a vulnerability.
use Rattle.std.specs.Prelude.{ℕ, ◌==◌, Bool, List, Option, Some, None, if◌then◌else◌, length, map}
use Rattle.std.specs.List.{filter, list_any}
use Rattle.semver.specs.EvalViews.{matches_views}
use Rattle.semver.specs.Parse.{Held, Parts}
use Rattle.rustsec_advisory.specs.Affected.{Function}
use Rattle.rustsec_advisory.specs.declared.affected.Affected.{Affected}
use Rattle.rustsec_database.specs.declared.vulnerability.Vulnerability.{Vulnerability}

-- whether a version matches some requirement, by Cargo's rule of matching
abbrev pub matches_some : Parts → List (List Held) → Bool
matches_some v rs = list_any (λ r. matches_views r v) rs

-- the paths of the functions with a requirement that a version matches, in their order
abbrev pub matching : Parts → List Function → List (List (List ℕ))
matching v fs = map (λ (f : Function). f.0) (filter (λ (f : Function). matches_some v f.1) fs)

-- likewise for a table `affected` that may be missing, or may list no function
abbrev pub functions_at : Parts → Option Affected → Option (List (List (List ℕ)))
functions_at v None = None
functions_at v (Some a) = if length a.functions == 0 then None else Some (matching v a.functions)

-- the affected functions of a vulnerability: none if no function is listed
abbrev pub functions_of : Vulnerability → Option (List (List (List ℕ)))
functions_of v = functions_at v.«package».version v.affected
