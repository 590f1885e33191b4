-- The events of the ranges that requirements leave have valid versions.
use Rattle.std.proofs.Common.{◌≡◌, ◌++◌, List, [], ◌∷◌, Option, Some, None, arith, refl, subst}
use Rattle.std.specs.Prelude.{All, filter_map}
use Rattle.std.specs.List.{AllByRecursion, cons_option}
use Rattle.std.proofs.lemmas.List.Elements.{All-cons, All-from_recursion, All-head, All-nil, All-tail}
use Rattle.std.proofs.lemmas.List.Sorted.{All-permutation}
use Rattle.std.proofs.lemmas.Option.{none-some, same_Some}
use Rattle.semver.specs.Grammar.{IsValid}
use Rattle.semver.specs.Parse.{Parts}
use Rattle.rustsec_versions.specs.interval.Interval.{Endpoint, Interval, exclusive, inclusive, unbounded}
use Rattle.rustsec_versions.specs.acceptance.Lists.{Lists, intervals}
use Rattle.rustsec_versions.specs.ranges.Ranges.{Range, lower_cut, lower_cuts, upper_cut, upper_cuts}
use Rattle.rustsec_versions.specs.order.Precedence.{least_of}
use Rattle.rustsec_versions.specs.ranges.AcceptedRanges.{AreMergedRanges}
use Rattle.rustsec_versions.proofs.lemmas.ranges.Agreement.{intervals-admissible}
use Rattle.rustsec_versions.proofs.lemmas.acceptance.Clashes.{AllSound, intervals-sound}
use Rattle.rustsec_versions.proofs.lemmas.acceptance.MergedFit.{merged-fit}
use Rattle.rustsec_versions.proofs.lemmas.order.LeastAbove.{successor-valid}
use Rattle.rustsec_versions.proofs.lemmas.requirement.Sound.{IsSound, IsSoundEnd}
use Rattle.rustsec_osv.specs.DocumentEvents.{fixed, introduced}
use Rattle.rustsec_osv.specs.EventCodec.{IsEventAgain}
use Rattle.rustsec_osv.specs.Events.{events_of}

sound-valid : (v : Parts) → IsSound v → IsValid v
sound-valid v s = (s.version.major, s.version.minor, s.version.patch, s.version.pre, rw s.plain refl)

-- ---- cuts

lower-valid : (e : Endpoint) (v : Parts) → IsSoundEnd e → lower_cut e ≡ Some v → IsValid v
lower-valid unbounded v s h = absurd (none-some v h)
lower-valid (inclusive w) v s h = subst IsValid (same_Some w v h) (sound-valid w s)
lower-valid (exclusive w) v s h = let t = successor-valid w v s.version h in sound-valid v (record { version = t.0; plain = t.1 })

upper-valid : (e : Endpoint) (v : Parts) → IsSoundEnd e → upper_cut e ≡ Some v → IsValid v
upper-valid unbounded v s h = absurd (none-some v h)
upper-valid (exclusive w) v s h = subst IsValid (same_Some w v h) (sound-valid w s)
upper-valid (inclusive w) v s h = let t = successor-valid w v s.version h in sound-valid v (record { version = t.0; plain = t.1 })

keep : (o : Option Parts) (vs : List Parts) → ((v : Parts) → o ≡ Some v → IsValid v) → AllByRecursion IsValid vs → AllByRecursion IsValid (cons_option o vs)
keep None vs one all = all
keep (Some v) vs one all = (one v refl, all)

all-lower : (is : List Interval) → AllSound is → AllByRecursion IsValid (lower_cuts is)
all-lower [] s = tt
all-lower (i ∷ is) s = keep (lower_cut i.start) (lower_cuts is) (λ v h. lower-valid i.start v s.0.start h) (all-lower is s.1)

all-upper : (is : List Interval) → AllSound is → AllByRecursion IsValid (upper_cuts is)
all-upper [] s = tt
all-upper (i ∷ is) s = keep (upper_cut i.end) (upper_cuts is) (λ v h. upper-valid i.end v s.0.end h) (all-upper is s.1)

-- ---- events

least-valid : IsValid (least_of 0 0 0)
least-valid = (omega arith, omega arith, omega arith, refl, refl)

abbrev fixes : List Range → List Parts
fixes rs = filter_map (λ r. r.fixed) rs

abbrev introductions : List Range → List Parts
introductions rs = filter_map (λ r. r.introduced) rs

step : (lo hi : Option Parts) (rs : List Range) → All IsValid (cons_option hi (fixes rs)) → All IsValid (cons_option lo (introductions rs))
    → (All IsValid (fixes rs) → All IsValid (introductions rs) → All IsEventAgain (events_of rs))
    → All IsEventAgain (events_of (record { introduced = lo; fixed = hi } ∷ rs))
step None None rs f i later = All-cons IsEventAgain (introduced (least_of 0 0 0)) (events_of rs) least-valid (later f i)
step (Some l) None rs f i later =
    All-cons IsEventAgain (introduced l) (events_of rs) (All-head IsValid l (introductions rs) i) (later f (All-tail IsValid l (introductions rs) i))
step None (Some h) rs f i later =
    All-cons IsEventAgain (introduced (least_of 0 0 0)) (fixed h ∷ events_of rs) least-valid
    (All-cons IsEventAgain (fixed h) (events_of rs) (All-head IsValid h (fixes rs) f) (later (All-tail IsValid h (fixes rs) f) i))
step (Some l) (Some h) rs f i later =
    All-cons IsEventAgain (introduced l) (fixed h ∷ events_of rs) (All-head IsValid l (introductions rs) i)
    (All-cons IsEventAgain (fixed h) (events_of rs) (All-head IsValid h (fixes rs) f)
    (later (All-tail IsValid h (fixes rs) f) (All-tail IsValid l (introductions rs) i)))

all-events : (rs : List Range) → All IsValid (fixes rs) → All IsValid (introductions rs) → All IsEventAgain (events_of rs)
all-events [] f i = All-nil IsEventAgain
all-events (r ∷ rs) f i = step r.introduced r.fixed rs f i (all-events rs)

-- the events of the ranges of requirements
pub events-valid : (ls : Lists) (rs : List Range) → AreMergedRanges ls rs → All IsEventAgain (events_of rs)
events-valid ls rs are =
    let sound : AllSound are.merged =
    (merged-fit (intervals ls) are.merged (intervals-sound (ls.patched ++ ls.unaffected)) (intervals-admissible (ls.patched ++ ls.unaffected)) are.are_merged).sound in
    all-events rs
    (All-permutation IsValid (lower_cuts are.merged) (fixes rs) are.ranges.fixed (All-from_recursion IsValid _ (all-lower are.merged sound)))
    (All-permutation IsValid (upper_cuts are.merged) (introductions rs) are.ranges.introduced (All-from_recursion IsValid _ (all-upper are.merged sound)))
