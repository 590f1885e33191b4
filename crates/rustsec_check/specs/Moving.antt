-- Whether a range moves an answer, which only helps proofs.
use Rattle.std.specs.Prelude.{◌≡◌, if◌then◌else◌, true, false, List, [], ◌∷◌, Option, Some, None}
use Rattle.semver.specs.Parse.{Parts}
use Rattle.rustsec_versions.specs.acceptance.Lists.{Lists}
use Rattle.rustsec_versions.specs.order.Precedence.{IsVersion, is_at_most}
use Rattle.rustsec_versions.specs.ranges.Ranges.{Range, in_range, is_until}
use Rattle.rustsec_check.specs.LeastFree.{is_affected}

-- the later one of a version and of where a range begins
abbrev pub later : Option Parts → Parts → Parts
later None v = v
later (Some introduced) v = if is_at_most introduced v then v else introduced

-- a range that holds a valid version, not below a version and below the answer, if any, that none of those in force leave
-- affected
pub record MovesIn (in_force : List Lists) (v : Parts) (answer : Option Parts) (r : Range) : Type 0 where
  pub at : Parts
  pub valid : IsVersion at
  pub from : is_at_most v at ≡ true
  pub below : is_until answer at ≡ true
  pub inside : in_range r at ≡ true
  pub is_free : is_affected in_force at ≡ false

-- no range moves the answer
abbrev pub NoneMoves : List Lists → Parts → Option Parts → List Range → Type 0
NoneMoves in_force v answer [] = Unit {0}
NoneMoves in_force v answer (r ∷ rs) = (¬ MovesIn in_force v answer r) × NoneMoves in_force v answer rs
