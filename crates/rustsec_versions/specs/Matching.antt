-- Where the interval of a requirement and Cargo's matching say different things of a release.
use Rattle.std.specs.Prelude.{◌≡◌, ◌&&◌, Bool, true, false, List, [], Some, None, is_some, not, unwrap_or, if◌then◌else◌}
use Rattle.semver.specs.EvalViews.{matches_views}
use Rattle.semver.specs.Parse.{Held, Parts}
use Rattle.semver.specs.declared.Op.{Op}
use Rattle.semver.specs.declared.Op.TheVariants as op
use Rattle.rustsec_versions.specs.interval.Interval.{Interval, holds}
use Rattle.rustsec_versions.specs.order.Precedence.{IsVersion}
use Rattle.rustsec_versions.specs.requirement.Requirement.{interval_of}

-- a release: a valid version without a pre-release (SemVer 2.0.0, section 9)
pub record IsRelease (v : Parts) : Type 0 where
  pub valid : IsVersion v
  pub none : v.3 ≡ []

-- the numbers that a comparator leaves out are its last ones, and only one with three numbers has a pre-release, as in each requirement that Cargo reads
pub record LeavesLast (c : Held) : Type 0 where
  pub patch : c.2 ≡ None → c.3 ≡ None
  pub pre : c.3 ≡ None → c.4 ≡ []

-- the interval holds the version exactly if the comparators match it
abbrev pub Agree : List Held → Interval → Parts → Type 0
Agree comparators i v = holds i v ≡ matches_views comparators v

-- a release that the interval holds and the comparators do not match, or the other way round
pub record IsDifference (comparators : List Held) (i : Interval) (v : Parts) (is_held : Bool) : Type 0 where
  pub release : IsRelease v
  pub held : holds i v ≡ is_held
  pub matched : matches_views comparators v ≡ not is_held

-- the release of patch number 1 after the numbers that a comparator gives: `2.0.1` for `<= 2`
abbrev pub first_patch : Held → Parts
first_patch c = (c.1, unwrap_or c.2 0, 1, [], [])

-- the interval of an admissible requirement holds a release exactly if the other comparators match it
abbrev pub IsReadAs : List Held → List Held → Type 0
IsReadAs cs ds = (i : Interval) → interval_of cs ≡ Some i → (v : Parts) → IsRelease v → Agree ds i v

-- ---- a missing number

-- the operators that compare: a missing number is zero in their interval
abbrev pub is_comparison : Op → Bool
is_comparison op.Caret = false
is_comparison op.Tilde = false
is_comparison op.Wildcard = false
is_comparison o = true

-- a comparator with zeros for the numbers that it leaves out, if its operator compares: `<= 2.0.0` for `<= 2`
abbrev pub with_zeros : Held → Held
with_zeros c = if is_comparison c.0 then (c.0, c.1, Some (unwrap_or c.2 0), Some (unwrap_or c.3 0), c.4) else c

-- a comparator that gives all three numbers
pub record IsWhole (c : Held) : Type 0 where
  pub minor : is_some c.2 ≡ true
  pub patch : is_some c.3 ≡ true

-- the operators that Cargo's matching reads differently without a patch number
abbrev pub needs_patch : Op → Bool
needs_patch op.Greater = true
needs_patch op.LessEq = true
needs_patch op.Exact = true
needs_patch o = false

-- a comparator that Cargo's matching reads differently: `>`, `<=` or `=` without a patch number
abbrev pub is_read_differently : Held → Bool
is_read_differently c = needs_patch c.0 && not (is_some c.3)

abbrev pub IsReadAlike : Held → Type 0
IsReadAlike c = is_read_differently c ≡ false

-- whether the operator is `>`
abbrev pub is_greater : Op → Bool
is_greater op.Greater = true
is_greater o = false
