-- The least version that no advisory leaves affected: the one to update to.
use Rattle.std.specs.Prelude.{◌≡◌, Bool, true, false, List, [], ◌∷◌, Option, Some, None}
use Rattle.std.specs.List.{find, list_any}
use Rattle.semver.specs.Parse.{Parts}
use Rattle.rustsec_versions.specs.acceptance.Lists.{Lists, affected}
use Rattle.rustsec_versions.specs.order.Precedence.{IsVersion, is_at_most}
use Rattle.rustsec_versions.specs.ranges.Ranges.{Range, in_range, in_ranges}

-- whether some of the lists leave a version affected
abbrev pub is_affected : List Lists → Parts → Bool
is_affected all v = list_any (λ ls. affected ls v) all

-- the least valid version, not below a version, that none of the lists leave affected; none if each such version is
-- affected
pub record IsLeastFree (all : List Lists) (v : Parts) (found : Option Parts) : Type 0 where
  pub some : (w : Parts) → found ≡ Some w → IsVersion w × (is_at_most v w ≡ true) × (is_affected all w ≡ false)
  pub least : (w : Parts) → found ≡ Some w → (u : Parts) → IsVersion u → is_at_most v u ≡ true → is_affected all u ≡ false → is_at_most w u ≡ true
  pub none : found ≡ None → (u : Parts) → IsVersion u → is_at_most v u ≡ true → is_affected all u ≡ true
  -- of versions that differ in build metadata alone: the version itself if it is free, else the one without
  pub itself : is_affected all v ≡ false → found ≡ Some v
  pub plain : (w : Parts) → found ≡ Some w → is_affected all v ≡ true → w.4 ≡ []

-- ---- the ranges of several lists, which only help proofs

-- a fix that is a valid version without build metadata
abbrev pub IsValidFix : Option Parts → Type 0
IsValidFix None = Unit {0}
IsValidFix (Some fixed) = IsVersion fixed × (fixed.4 ≡ [])

abbrev pub HaveValidFixes : List Range → Type 0
HaveValidFixes [] = Unit {0}
HaveValidFixes (r ∷ rs) = IsValidFix r.fixed × HaveValidFixes rs

-- an introduction that is a valid version
abbrev pub IsValidStart : Option Parts → Type 0
IsValidStart None = Unit {0}
IsValidStart (Some introduced) = IsVersion introduced

abbrev pub HaveValidStarts : List Range → Type 0
HaveValidStarts [] = Unit {0}
HaveValidStarts (r ∷ rs) = IsValidStart r.introduced × HaveValidStarts rs

-- ranges that hold the valid versions which some of the lists leave affected
pub record AreRangesOfAll (all : List Lists) (rs : List Range) : Type 0 where
  pub valid : HaveValidFixes rs
  pub agree : (v : Parts) → IsVersion v → in_ranges rs v ≡ is_affected all v

-- the first range that holds a version
abbrev pub holding : List Range → Parts → Option Range
holding rs v = find (λ r. in_range r v) rs
