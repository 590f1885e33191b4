-- The events of rising ranges rise, and take turns: an introduction, then a fix.
use Rattle.std.proofs.Common.{◌≡◌, Bool, true, false, List, [], ◌∷◌, Option, Some, None, map, refl, subst}
use Rattle.std.specs.List.{AllByRecursion, list_all}
use Rattle.std.proofs.lemmas.List.Elements.{recursion_from_All}
use Rattle.std.specs.Cmp.{first_so, second_so}
use Rattle.semver.specs.Grammar.{IsValid}
use Rattle.semver.specs.Parse.{Parts}
use Rattle.rustsec_versions.specs.ranges.AcceptedRanges.{AreMergedRanges}
use Rattle.rustsec_versions.specs.acceptance.Lists.{Lists}
use Rattle.rustsec_versions.specs.order.Precedence.{IsVersion}
use Rattle.rustsec_versions.specs.ranges.Ranges.{Range, is_followed, is_in_order}
use Rattle.rustsec_versions.proofs.lemmas.ranges.RangeList.{AllFollowed, followed-to}
use Rattle.rustsec_versions.proofs.lemmas.order.Rising.{Rises}
use Rattle.rustsec_osv.specs.EventCodec.{IsEventAgain}
use Rattle.rustsec_osv.specs.DocumentEvents.{Event, fixed, introduced, last_affected}
use Rattle.rustsec_osv.specs.Events.{events_of}
use Rattle.rustsec_osv.proofs.LeastVersion.{least-at_most}
use Rattle.rustsec_osv.proofs.ValidEvents.{events-valid}
use Rattle.rustsec_osv_rules.specs.evaluation.Order.{at}

-- events that take turns; the first is an introduction, or a fix
abbrev pub Turns : Bool → List Event → Type 0
Turns first [] = Unit {0}
Turns first (introduced v ∷ es) = (first ≡ true) × Turns false es
Turns first (fixed v ∷ es) = (first ≡ false) × Turns true es
Turns first (last_affected v ∷ es) = ⊥

-- ---- ranges

abbrev AllInOrder : List Range → Type 0
AllInOrder [] = Unit {0}
AllInOrder (r ∷ rs) = (is_in_order r.introduced r.fixed ≡ true) × AllInOrder rs

in_order-to : (rs : List Range) → list_all (λ r. is_in_order r.introduced r.fixed) rs ≡ true → AllInOrder rs
in_order-to [] h = tt
in_order-to (r ∷ rs) h = (first_so _ _ h, in_order-to rs (second_so _ _ h))

rest : (r : Range) (rs : List Range) → AllFollowed (r ∷ rs) → AllFollowed rs
rest r [] a = tt
rest r (s ∷ rs) a = a.1

-- a range without a fix is the last one
last : (r : Range) (rs : List Range) → r.fixed ≡ None → AllFollowed (r ∷ rs) → rs ≡ []
last r [] e a = refl
last r (s ∷ rs) e a = cc (rw e at a.0)

-- ---- rising

abbrev versions_of : List Range → List Parts
versions_of rs = map at (events_of rs)

led_step : (h : Parts) (lo hi : Option Parts) (rs : List Range) → is_followed (Some h) lo ≡ true
    → Rises (versions_of (record { introduced = lo; fixed = hi } ∷ rs)) → Rises (h ∷ versions_of (record { introduced = lo; fixed = hi } ∷ rs))
led_step h None hi rs f r = cc f
led_step h (Some l) hi rs f r = (f, r)

-- the versions of later ranges, with the fix before them
led : (r : Range) (rs : List Range) (h : Parts) → r.fixed ≡ Some h → AllFollowed (r ∷ rs) → Rises (versions_of rs) → Rises (h ∷ versions_of rs)
led r [] h e f x = tt
led r (s ∷ rs) h e f x = led_step h s.introduced s.fixed rs (rw e at f.0) x

version-from : (v : Parts) → IsValid v → IsVersion v
version-from v h = record { major = h.0; minor = h.1; patch = h.2; pre = h.3 }

some-same : (v w : Parts) → Some v ≡ Some w → v ≡ w
some-same v w h = cc h

valid_fix : (lo hi : Option Parts) (rs : List Range) → AllByRecursion IsEventAgain (events_of (record { introduced = lo; fixed = hi } ∷ rs))
    → (h : Parts) → hi ≡ Some h → IsVersion h
valid_fix lo None rs a h e = cc e
valid_fix lo (Some w) rs a h e = subst IsVersion (some-same w h e) (version-from w a.1.0)

valid_rest : (lo hi : Option Parts) (rs : List Range) → AllByRecursion IsEventAgain (events_of (record { introduced = lo; fixed = hi } ∷ rs))
    → AllByRecursion IsEventAgain (events_of rs)
valid_rest lo None rs a = a.1
valid_rest lo (Some w) rs a = a.1.1

rise_step : (lo hi : Option Parts) (rs : List Range) → is_in_order lo hi ≡ true → ((h : Parts) → hi ≡ Some h → IsVersion h)
    → ((h : Parts) → hi ≡ Some h → Rises (h ∷ versions_of rs)) → (hi ≡ None → rs ≡ [])
    → Rises (versions_of (record { introduced = lo; fixed = hi } ∷ rs))
rise_step lo None rs o v l n = rw (n refl) tt
rise_step None (Some h) rs o v l n = (least-at_most h (v h refl), l h refl)
rise_step (Some a) (Some h) rs o v l n = (o, l h refl)

rise : (rs : List Range) → AllInOrder rs → AllFollowed rs → AllByRecursion IsEventAgain (events_of rs) → Rises (versions_of rs)
rise [] o f a = tt
rise (r ∷ rs) o f a =
    rise_step r.introduced r.fixed rs o.0 (valid_fix r.introduced r.fixed rs a)
    (λ h e. led r rs h e f (rise rs o.1 (rest r rs f) (valid_rest r.introduced r.fixed rs a))) (λ e. last r rs e f)

-- ---- taking turns

turn_step : (lo hi : Option Parts) (rs : List Range) → (hi ≡ None → rs ≡ []) → Turns true (events_of rs)
    → Turns true (events_of (record { introduced = lo; fixed = hi } ∷ rs))
turn_step lo None rs n t = rw (n refl) (refl, tt)
turn_step lo (Some h) rs n t = (refl, (refl, t))

turn : (rs : List Range) → AllFollowed rs → Turns true (events_of rs)
turn [] f = tt
turn (r ∷ rs) f = turn_step r.introduced r.fixed rs (λ e. last r rs e f) (turn rs (rest r rs f))

-- ---- the ranges of requirements

pub events-rise : (ls : Lists) (rs : List Range) → AreMergedRanges ls rs → Rises (map at (events_of rs))
events-rise ls rs are =
    rise rs (in_order-to rs are.ranges.in_order) (followed-to rs are.ranges.followed) (recursion_from_All IsEventAgain _ (events-valid ls rs are))

pub events-turn : (ls : Lists) (rs : List Range) → AreMergedRanges ls rs → Turns true (events_of rs)
events-turn ls rs are = turn rs (followed-to rs are.ranges.followed)
