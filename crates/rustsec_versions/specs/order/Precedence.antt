-- Which versions are valid, the least one of three numbers, and their two orders: precedence (SemVer 2.0.0, section 11), and the order of the type
-- `Version`: precedence, then build metadata. It carries meaning: public contracts cite it.
use Rattle.std.specs.Prelude.{◌≡◌, ◌<◌, ◌^◌, ℕ, Bool, true, List, [], codes, nat_lt}
use Rattle.std.specs.Ordering.{is_le, is_lt, nat_cmp, ordering_then}
use Rattle.std.specs.declared.cmp.Ordering.{Ordering}
use Rattle.semver.specs.Grammar.{is_pre_release}
use Rattle.semver.specs.Order.{build_cmp, pre_cmp}
use Rattle.semver.specs.Parse.{Parts}

-- a valid version: three numbers of 64 bits, and a pre-release of valid identifiers (sections 2 and 9)
pub record IsVersion (v : Parts) : Type 0 where
  pub major : v.0 < 2 ^ 64
  pub minor : v.1 < 2 ^ 64
  pub patch : v.2 < 2 ^ 64
  pub pre : is_pre_release v.3 ≡ true

-- whether a number fits a version
abbrev pub fits : ℕ → Bool
fits n = nat_lt n (2 ^ 64)

-- the least version of three numbers: its pre-release is `0`
abbrev pub least_of : ℕ → ℕ → ℕ → Parts
least_of major minor patch = (major, minor, patch, codes "0", [])

-- the three numbers, and then what decides where these are equal
abbrev pub by_numbers : Parts → Parts → Ordering → Ordering
by_numbers a b rest = ordering_then (nat_cmp a.0 b.0) (ordering_then (nat_cmp a.1 b.1) (ordering_then (nat_cmp a.2 b.2) rest))

-- precedence: the numbers, then the pre-release; build metadata is ignored (section 11)
abbrev pub precedence : Parts → Parts → Ordering
precedence a b = by_numbers a b (pre_cmp a.3 b.3)

-- the order of the type: the numbers, the pre-release, then build metadata; missing build metadata is the lowest
abbrev pub version_order : Parts → Parts → Ordering
version_order a b = by_numbers a b (ordering_then (pre_cmp a.3 b.3) (build_cmp a.4 b.4))

-- whether a version is below another, in precedence
abbrev pub is_below : Parts → Parts → Bool
is_below a b = is_lt (precedence a b)

-- whether a version is at or below another, in precedence
abbrev pub is_at_most : Parts → Parts → Bool
is_at_most a b = is_le (precedence a b)

-- a version with other build metadata
abbrev pub with_build : List ℕ → Parts → Parts
with_build build v = (v.0, v.1, v.2, v.3, build)
