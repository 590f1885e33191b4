-- Whether the events of a range call a version affected (OSV schema, "Evaluation"). It carries meaning: public contracts cite it.
use Rattle.std.specs.Prelude.{◌≡◌, ◌&&◌, ◌||◌, Bool, IsPermutation, List, false, map, not, true}
use Rattle.std.specs.List.{fold, list_any}
use Rattle.std.specs.List.Sorted.{IsSorted}
use Rattle.semver.specs.Parse.{Parts}
use Rattle.rustsec_versions.specs.order.Precedence.{is_at_most, is_below, precedence}
use Rattle.rustsec_osv_rules.specs.evaluation.Event.{Event, fixed, introduced, last_affected, limit, version_of}

-- whether a version is affected after an event, by whether it was before it
abbrev pub after : Parts → Bool → Event → Bool
after v before (introduced w) = is_at_most w v || before
after v before (fixed w) = not (is_at_most w v) && before
after v before (last_affected w) = not (is_below w v) && before
after v before (limit w) = before

-- whether events in this order say that a version is affected: at first it is not, then each event decides in turn
abbrev pub say_in_order : List Event → Parts → Bool
say_in_order es v = fold (after v) false es

abbrev pub is_limit : Event → Bool
is_limit (introduced w) = false
is_limit (fixed w) = false
is_limit (last_affected w) = false
is_limit (limit w) = true

abbrev pub is_limit_above : Parts → Event → Bool
is_limit_above v (introduced w) = false
is_limit_above v (fixed w) = false
is_limit_above v (last_affected w) = false
is_limit_above v (limit w) = is_below v w

-- whether a version is below one of the limits, if any is given
abbrev pub is_before_limits : List Event → Parts → Bool
is_before_limits es v = not (list_any is_limit es) || list_any (is_limit_above v) es

-- an answer of the evaluation: in some order in which their versions rise, the events say so, and the version is before the limits. The schema leaves open
-- which of two events at one version comes first, so there can be two answers
pub record IsRangeAnswer (es : List Event) (v : Parts) (answer : Bool) : Type 0 where
  pub ordered : List Event
  pub same : IsPermutation es ordered
  pub rise : IsSorted precedence (map version_of ordered)
  pub is : answer ≡ (is_before_limits es v && say_in_order ordered v)
