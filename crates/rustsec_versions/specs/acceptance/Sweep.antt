-- The sweep that merges intervals: over intervals in the order of their starts, it joins each one with the merged
-- interval so far if it overlaps the one that ends last of those and both are patched. If they overlap and one is not
-- patched, the two clash. It only helps proofs: `Merged` defines merged intervals for public contracts.
use Rattle.std.specs.Prelude.{Bool, true, false, not, ◌&&◌, List, [], ◌∷◌, ◌++◌, Result, Ok, Err, cond, filter_map, map}
use Rattle.std.specs.List.{list_any}
use Rattle.std.specs.Result.{result_map_both}
use Rattle.semver.specs.Parse.{Held}
use Rattle.rustsec_versions.specs.interval.Interval.{Endpoint, Interval, end_le, overlap}
use Rattle.rustsec_versions.specs.acceptance.Lists.{Lists}
use Rattle.rustsec_versions.specs.order.Precedence.{precedence, version_order}
use Rattle.rustsec_versions.specs.requirement.Requirement.{interval_of}

-- the interval of a requirement, and whether the requirement is in the patched list
pub record TaggedInterval : Type 0 where
  pub interval : Interval
  pub is_patched : Bool

abbrev pub tag : Bool → Interval → TaggedInterval
tag is_patched i = record { interval = i; is_patched = is_patched }

-- the intervals of a list of requirements
abbrev pub tagged : Bool → List (List Held) → List TaggedInterval
tagged is_patched rs = map (tag is_patched) (filter_map interval_of rs)

-- those of both lists
abbrev pub all_tagged : Lists → List TaggedInterval
all_tagged ls = tagged true ls.patched ++ tagged false ls.unaffected

abbrev pub spans : List TaggedInterval → List Interval
spans cs = map (λ c. c.interval) cs

-- whether two requirements at different places clash
abbrev pub clashes : TaggedInterval → TaggedInterval → Bool
clashes c x = not (c.is_patched && x.is_patched) && overlap precedence c.interval x.interval

-- no two clash
abbrev pub are_clear : List TaggedInterval → Bool
are_clear [] = true
are_clear (c ∷ cs) = not (list_any (clashes c) cs) && are_clear cs

-- the one of two intervals that ends later; the first one if both end at one place
abbrev pub later : TaggedInterval → TaggedInterval → TaggedInterval
later c x = cond (end_le x.interval.end c.interval.end) c x

-- an interval, from another start on
abbrev pub from_start : Endpoint → TaggedInterval → TaggedInterval
from_start s c = record { interval = record { start = s; end = c.interval.end }; is_patched = c.is_patched }

-- the merged intervals from a start on, where an interval ends last of those before; or the first two that clash
unfoldable pub swept : Endpoint → TaggedInterval → List TaggedInterval → Result (List TaggedInterval) (TaggedInterval × TaggedInterval)
swept s c [] = Ok (from_start s c ∷ [])
swept s c (x ∷ xs) =
    cond (overlap version_order c.interval x.interval) (cond (c.is_patched && x.is_patched) (swept s (later c x) xs) (Err (c, x)))
    (result_map_both (λ ms. from_start s c ∷ ms) (λ p. p) (swept x.interval.start x xs))

-- those of a whole list
abbrev pub all_swept : List TaggedInterval → Result (List TaggedInterval) (TaggedInterval × TaggedInterval)
all_swept [] = Ok []
all_swept (c ∷ xs) = swept c.interval.start c xs
