-- The version least above another one, in precedence, among all valid versions.
-- It carries meaning: public contracts cite it.
use Rattle.std.specs.Prelude.{◌≡◌, ◌==◌, ◌+◌, true, [], ◌++◌, codes, length, Option, Some, if◌then◌else◌}
use Rattle.semver.specs.Parse.{Parts}
use Rattle.rustsec_values.specs.Reading.{only_if}
use Rattle.rustsec_versions.specs.order.Precedence.{IsVersion, fits, is_at_most, is_below, least_of}

-- s is least above v: v is below s, and no valid version lies between them
pub record IsLeastAbove (v s : Parts) : Type 0 where
  pub above : is_below v s ≡ true
  pub least : (w : Parts) → IsVersion w → is_below v w ≡ true → is_at_most s w ≡ true

-- the one without build: of a release the pre-release `0` of its next patch, if that number fits; else one
-- identifier `0` more
abbrev pub successor : Parts → Option Parts
successor v =
    if length v.3 == 0 then only_if (fits (v.2 + 1)) (Some (least_of v.0 v.1 (v.2 + 1)))
    else Some (v.0, v.1, v.2, v.3 ++ codes ".0", [])
