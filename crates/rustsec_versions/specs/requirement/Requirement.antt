-- Which requirements are admissible, and the interval of one that is: the versions that it states as unaffected. It
-- carries meaning: public contracts cite it.
use Rattle.std.specs.Prelude.{ℕ, suc, zero, ◌+◌, ◌^◌, ◌&&◌, ◌||◌, nat_lt, Bool, true, List, [], ◌∷◌, length, Option, Some, None, unwrap_or, option_map, codes}
use Rattle.std.specs.List.{list_all}
use Rattle.semver.specs.Grammar.{is_pre_release}
use Rattle.semver.specs.Parse.{Held, Parts}
use Rattle.semver.specs.declared.Op.{Op}
use Rattle.semver.specs.declared.Op.TheVariants as op
use Rattle.rustsec_values.specs.Reading.{only_if}
use Rattle.rustsec_versions.specs.order.Precedence.{fits, least_of, precedence}
use Rattle.rustsec_versions.specs.interval.Interval.{Endpoint, Interval, exclusive, inclusive, reaches, unbounded}

-- ---- the version that a comparator names

-- the version that a comparator names: missing numbers are zero, the pre-release is kept, no build
abbrev pub base_version : Held → Parts
base_version c = (c.1, unwrap_or c.2 0, unwrap_or c.3 0, c.4, [])

-- whether a comparator names a valid version
abbrev pub names_version : Held → Bool
names_version c = fits c.1 && (fits (unwrap_or c.2 0) && (fits (unwrap_or c.3 0) && is_pre_release c.4))

-- the least version of the next major number, of the next minor one and of the next patch, if that number fits
abbrev pub next_major : ℕ → Option Parts
next_major a = only_if (fits (a + 1)) (Some (least_of (a + 1) 0 0))

abbrev pub next_minor : ℕ → ℕ → Option Parts
next_minor a b = only_if (fits (b + 1)) (Some (least_of a (b + 1) 0))

abbrev pub next_patch : ℕ → ℕ → ℕ → Option Parts
next_patch a b c = only_if (fits (c + 1)) (Some (least_of a b (c + 1)))

-- where `^` ends, by the major, minor and patch number: at the next change of the leftmost number that is not
-- zero; a patch without a minor has no end
abbrev pub caret_end : ℕ → Option ℕ → Option ℕ → Option Parts
caret_end a None (Some c) = None
caret_end (suc a) None None = next_major (suc a)
caret_end (suc a) (Some b) c = next_major (suc a)
caret_end zero None None = next_major 0
caret_end zero (Some zero) (Some c) = next_patch 0 0 c
caret_end zero (Some b) c = next_minor 0 b

-- where `~` ends: at the next minor number, or at the next major one if no minor is given
abbrev pub tilde_end : ℕ → Option ℕ → Option ℕ → Option Parts
tilde_end a None (Some c) = None
tilde_end a None None = next_major a
tilde_end a (Some b) c = next_minor a b

-- ---- one comparator and two

-- from a version that is in the interval to one that is not
abbrev pub up_to : Parts → Parts → Interval
up_to s e = record { start = inclusive s; end = exclusive e }

-- the interval of one comparator
abbrev pub of_one : Op → Held → Option Interval
of_one op.Greater c = Some (record { start = exclusive (base_version c); end = unbounded })
of_one op.GreaterEq c = Some (record { start = inclusive (base_version c); end = unbounded })
of_one op.Less c = Some (record { start = unbounded; end = exclusive (base_version c) })
of_one op.LessEq c = Some (record { start = unbounded; end = inclusive (base_version c) })
of_one op.Exact c = Some (record { start = inclusive (base_version c); end = inclusive (base_version c) })
of_one op.Caret c = option_map (up_to (base_version c)) (caret_end c.1 c.2 c.3)
of_one op.Tilde c = option_map (up_to (base_version c)) (tilde_end c.1 c.2 c.3)
of_one op.Wildcard c = None

-- what one of two comparators gives: the start, the end or neither
pub data Side : Type 0 where
  lower : Endpoint → Side
  upper : Endpoint → Side
  neither : Side

abbrev pub side_of : Op → Held → Side
side_of op.Greater c = lower (exclusive (base_version c))
side_of op.GreaterEq c = lower (inclusive (base_version c))
side_of op.Less c = upper (exclusive (base_version c))
side_of op.LessEq c = upper (inclusive (base_version c))
side_of op.Exact c = neither
side_of op.Caret c = neither
side_of op.Tilde c = neither
side_of op.Wildcard c = neither

-- the interval of two comparators: one gives the start and the other the end
abbrev pub of_sides : Side → Side → Option Interval
of_sides (lower s) (upper e) = Some (record { start = s; end = e })
of_sides (upper e) (lower s) = Some (record { start = s; end = e })
of_sides (lower s) (lower t) = None
of_sides (lower s) neither = None
of_sides (upper e) (upper f) = None
of_sides (upper e) neither = None
of_sides neither b = None

-- ---- a requirement

-- the interval of the comparators: none at all have every version, and three or more have no interval
abbrev pub of_comparators : List Held → Option Interval
of_comparators [] = Some (record { start = unbounded; end = unbounded })
of_comparators (c ∷ []) = of_one c.0 c
of_comparators (c ∷ d ∷ []) = of_sides (side_of c.0 c) (side_of d.0 d)
of_comparators (c ∷ d ∷ e ∷ rest) = None

-- the interval that a requirement states, if each comparator names a valid version
abbrev pub stated : List Held → Option Interval
stated cs = only_if (list_all names_version cs) (of_comparators cs)

-- whether a version has a successor: each has one but a release of the greatest patch
abbrev pub has_successor : Parts → Bool
has_successor v = nat_lt 0 (length v.3) || fits (v.2 + 1)

-- an exclusive start and an inclusive end need the successor of their version
abbrev pub start_cut_exists : Endpoint → Bool
start_cut_exists unbounded = true
start_cut_exists (inclusive v) = true
start_cut_exists (exclusive v) = has_successor v

abbrev pub end_cut_exists : Endpoint → Bool
end_cut_exists unbounded = true
end_cut_exists (exclusive v) = true
end_cut_exists (inclusive v) = has_successor v

-- an interval is admissible if its start is at or below its end, and the successors that its bounds need exist
abbrev pub is_admissible : Interval → Bool
is_admissible i = reaches precedence i.start i.end && (start_cut_exists i.start && end_cut_exists i.end)

abbrev pub admitted : Option Interval → Option Interval
admitted None = None
admitted (Some i) = only_if (is_admissible i) (Some i)

-- the interval of a requirement, if it is admissible
abbrev pub interval_of : List Held → Option Interval
interval_of cs = admitted (stated cs)
