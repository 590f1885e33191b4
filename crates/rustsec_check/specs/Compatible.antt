-- Whether the interval of the requirement that a locked version states, `^LOCKED`, holds a version. Cargo's own matching differs
-- for pre-releases.
use Rattle.std.specs.Prelude.{Bool, false, [], ◌∷◌, Option, Some, None}
use Rattle.semver.specs.Parse.{Held, Parts}
use Rattle.semver.specs.declared.Op.TheVariants as op
use Rattle.rustsec_versions.specs.interval.Interval.{Interval, holds}
use Rattle.rustsec_versions.specs.requirement.Requirement.{interval_of}

-- the comparator `^MAJOR.MINOR.PATCH-PRE` of a version; build metadata is left out
abbrev pub caret_of : Parts → Held
caret_of v = (op.Caret, v.0, Some v.1, Some v.2, v.3)

-- whether an interval holds a version; without an interval none is held
abbrev pub is_held : Option Interval → Parts → Bool
is_held None v = false
is_held (Some i) v = holds i v

-- whether the interval of the requirement `^LOCKED` holds a version; a requirement without an end has no interval
abbrev pub is_compatible : Parts → Parts → Bool
is_compatible locked v = is_held (interval_of (caret_of locked ∷ [])) v

-- likewise for a version that may be missing
abbrev pub is_compatible_with : Parts → Option Parts → Bool
is_compatible_with locked None = false
is_compatible_with locked (Some v) = is_compatible locked v
