-- The versions between which all those are that an advisory leaves affected, by its requirements of one comparator.
use Rattle.std.specs.Prelude.{◌&&◌, ◌==◌, List, [], ◌∷◌, Option, None, Some, length, unwrap_or}
use Rattle.semver.specs.Parse.{Held, Parts}
use Rattle.semver.specs.declared.Op.{Op}
use Rattle.semver.specs.declared.Op.TheVariants as op
use Rattle.rustsec_values.specs.Reading.{only_if}
use Rattle.rustsec_versions.specs.acceptance.Lists.{Lists}
use Rattle.rustsec_versions.specs.ranges.Ranges.{Range}
use Rattle.rustsec_versions.specs.order.Precedence.{fits}

-- the version that a comparator names, unless it has a pre-release; missing numbers are zero
abbrev pub release_of : Held → Option Parts
release_of c =
    only_if ((fits c.1 && (fits (unwrap_or c.2 0) && fits (unwrap_or c.3 0))) && length c.4 == 0) (Some (c.1, unwrap_or c.2 0, unwrap_or c.3 0, [], []))

abbrev pub end_at : Op → Held → Option Parts
end_at op.GreaterEq c = release_of c
end_at op.Greater c = None
end_at op.Less c = None
end_at op.LessEq c = None
end_at op.Exact c = None
end_at op.Caret c = None
end_at op.Tilde c = None
end_at op.Wildcard c = None

abbrev pub start_at : Op → Held → Option Parts
start_at op.Less c = release_of c
start_at op.Greater c = None
start_at op.GreaterEq c = None
start_at op.LessEq c = None
start_at op.Exact c = None
start_at op.Caret c = None
start_at op.Tilde c = None
start_at op.Wildcard c = None

-- the release from which on a requirement holds all versions: that of `>=` alone
abbrev pub end_by : List Held → Option Parts
end_by [] = None
end_by (c ∷ []) = end_at c.0 c
end_by (c ∷ d ∷ rest) = None

-- the release below which a requirement holds all versions: that of `<` alone
abbrev pub start_by : List Held → Option Parts
start_by [] = None
start_by (c ∷ []) = start_at c.0 c
start_by (c ∷ d ∷ rest) = None

-- the first of these releases of a list of requirements
abbrev pub or_else : Option Parts → Option Parts → Option Parts
or_else None other = other
or_else (Some v) other = Some v

abbrev pub first_end : List (List Held) → Option Parts
first_end [] = None
first_end (r ∷ rs) = or_else (end_by r) (first_end rs)

abbrev pub first_start : List (List Held) → Option Parts
first_start [] = None
first_start (r ∷ rs) = or_else (start_by r) (first_start rs)

-- the span of the affected versions: from the first `<` of the unaffected requirements on, and below the first `>=` of the
-- patched ones
unfoldable pub span_of : Lists → Range
span_of ls = record { introduced = first_start ls.unaffected; fixed = first_end ls.patched }
