-- What a contract sees of bounds and requirements: the parts of their versions, and no memory.
-- It carries meaning: public contracts cite it.
use Rattle.std.specs.Prelude.{List, map, Option, Some, None, option_map}
use Rattle.semver.specs.Identifiers.{comparator_view, parts_of}
use Rattle.semver.specs.Parse.{Held, Parts}
use Rattle.semver.specs.declared.Version.{Version}
use Rattle.semver.specs.declared.VersionReq.{VersionReq}
use Rattle.rustsec_versions.specs.ranges.Ranges.{Range}
use Rattle.rustsec_versions.specs.declared.bound.Bound.{Bound}
use Rattle.rustsec_versions.specs.declared.bound.Bound.TheVariants as bound
use Rattle.rustsec_versions.specs.declared.requirement.comparator.Side as given
use Rattle.rustsec_versions.specs.declared.requirement.comparator.Side.TheVariants as side
use Rattle.rustsec_versions.specs.requirement.Requirement.{Side, lower, neither, upper}
use Rattle.rustsec_versions.specs.acceptance.Lists.{Lists}
use Rattle.rustsec_versions.specs.interval.Interval.{Endpoint, Interval, exclusive, inclusive, unbounded}

-- a bound
abbrev pub endpoint_of : Bound → Endpoint
endpoint_of bound.Unbounded = unbounded
endpoint_of (bound.Exclusive v) = exclusive (parts_of v)
endpoint_of (bound.Inclusive v) = inclusive (parts_of v)

-- its version, unless it is unbounded
abbrev pub bound_version_of : Bound → Option Parts
bound_version_of bound.Unbounded = None
bound_version_of (bound.Exclusive v) = Some (parts_of v)
bound_version_of (bound.Inclusive v) = Some (parts_of v)

-- the interval between two bounds
abbrev pub interval_between : Bound → Bound → Interval
interval_between s e = record { start = endpoint_of s; end = endpoint_of e }

-- the comparators of a requirement
abbrev pub comparators_of : VersionReq → List Held
comparators_of r = map comparator_view r.comparators.items

-- the requirements of two lists
abbrev pub lists_of : List VersionReq → List VersionReq → Lists
lists_of patched unaffected = record { patched = map comparators_of patched; unaffected = map comparators_of unaffected }

-- what one of two comparators gives
abbrev pub side_view : given.Side → Side
side_view (side.Lower b) = lower (endpoint_of b)
side_view (side.Upper b) = upper (endpoint_of b)
side_view side.Neither = neither

-- a range by its two sides
abbrev pub range_of : Option Version → Option Version → Range
range_of introduced fixed = record { introduced = option_map parts_of introduced; fixed = option_map parts_of fixed }
