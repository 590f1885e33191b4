-- No version outside of the span of some requirements is affected.
use Rattle.std.proofs.Common.{◌≡◌, ◌∙◌, ◌&&◌, ◌||◌, ◌++◌, ◌==◌, ℕ, true, false, List, [], ◌∷◌, Option, None, Some, ap, arith, inl, inr, length, not, refl, subst, sym}
use Rattle.std.proofs.lemmas.Bool.{and_from, cases_Bool, or_left, or_right}
use Rattle.std.proofs.lemmas.Grind.{common_steps}
use Rattle.std.proofs.lemmas.List.Elements.{filter_map-append}
use Rattle.std.proofs.lemmas.List.Folds.{list_any-append}
use Rattle.std.specs.Prelude.{unwrap_or}
use Rattle.std.specs.List.{cons_option, filter_map, list_any}
use Rattle.semver.specs.Grammar.{is_pre_release}
use Rattle.semver.specs.Parse.{Held, Parts}
use Rattle.semver.specs.declared.Op.{Op}
use Rattle.semver.specs.declared.Op.TheVariants as op
use Rattle.rustsec_values.specs.Reading.{only_if}
use Rattle.rustsec_versions.specs.acceptance.Lists.{Lists, affected}
use Rattle.rustsec_versions.specs.interval.Interval.{Interval, exclusive, holds, inclusive, unbounded}
use Rattle.rustsec_versions.specs.order.Precedence.{fits, is_at_most, is_below}
use Rattle.rustsec_versions.specs.ranges.Ranges.{in_range, is_from, is_until}
use Rattle.rustsec_versions.specs.requirement.Requirement.{admitted, base_version, interval_of, names_version, of_one}
use Rattle.rustsec_versions.proofs.lemmas.order.PrecedenceLaws.{at_most-trans, not_at_most, not_below}
use Rattle.rustsec_versions.proofs.lemmas.requirement.Sound.{and-first, and-second, only_if-true, some-same}
use Rattle.rustsec_database.specs.Spans.{end_at, end_by, first_end, first_start, or_else, release_of, span_of, start_at, start_by}

-- ---- one requirement

nothing : (xs : List ℕ) → (length xs == 0) ≡ true → xs ≡ []
nothing [] h = refl
nothing (x ∷ xs) h = grind (arith, common_steps)

-- the release is the version that the comparator names
record IsNamed (c : Held) (x : Parts) : Type 0 where
  names : names_version c ≡ true
  base : base_version c ≡ x

named-by : (c : Held) (x : Parts) → release_of c ≡ Some x → IsNamed c x
named-by c x h =
    let t = only_if-true _ _ x h in
    let numbers = and-first (fits c.1 && (fits (unwrap_or c.2 0) && fits (unwrap_or c.3 0))) (length c.4 == 0) t.0 in
    let none : c.4 ≡ [] = nothing c.4 (and-second (fits c.1 && (fits (unwrap_or c.2 0) && fits (unwrap_or c.3 0))) (length c.4 == 0) t.0) in
    let first : fits c.1 ≡ true = and-first _ _ numbers in
    let more = and-second (fits c.1) (fits (unwrap_or c.2 0) && fits (unwrap_or c.3 0)) numbers in
    let second : fits (unwrap_or c.2 0) ≡ true = and-first _ _ more in
    let third : fits (unwrap_or c.3 0) ≡ true = and-second (fits (unwrap_or c.2 0)) (fits (unwrap_or c.3 0)) more in
    let pre : is_pre_release c.4 ≡ true = ap is_pre_release none in
    record {
      names = and_from _ _ first (and_from _ _ second (and_from _ _ third pre));
      base = (λ i. (c.1, unwrap_or c.2 0, unwrap_or c.3 0, none i, [])) ∙ some-same _ _ t.1;
    }

-- a requirement has an interval, which holds a version
record HoldsBy (cs : List Held) (v : Parts) : Type 0 where
  interval : Interval
  is : interval_of cs ≡ Some interval
  held : holds interval v ≡ true

from-at : (o : Op) (c : Held) (x v : Parts) → c.0 ≡ o → end_at o c ≡ Some x → is_at_most x v ≡ true → HoldsBy (c ∷ []) v
from-at op.GreaterEq c x v is h at =
    let n = named-by c x h in
    let from : is_at_most (base_version c) v ≡ true = subst (λ s. is_at_most s v ≡ true) (sym n.base) at in
    record {
      interval = record { start = inclusive (base_version c); end = unbounded };
      is = (λ i. admitted (only_if ((n.names i) && true) (of_one (is i) c)));
      held = and_from _ _ from refl;
    }
from-at op.Greater c x v is h at = cc h
from-at op.Less c x v is h at = cc h
from-at op.LessEq c x v is h at = cc h
from-at op.Exact c x v is h at = cc h
from-at op.Caret c x v is h at = cc h
from-at op.Tilde c x v is h at = cc h
from-at op.Wildcard c x v is h at = cc h

till-at : (o : Op) (c : Held) (x v : Parts) → c.0 ≡ o → start_at o c ≡ Some x → is_below v x ≡ true → HoldsBy (c ∷ []) v
till-at op.Less c x v is h at =
    let n = named-by c x h in
    let till : is_below v (base_version c) ≡ true = subst (λ s. is_below v s ≡ true) (sym n.base) at in
    record {
      interval = record { start = unbounded; end = exclusive (base_version c) };
      is = (λ i. admitted (only_if ((n.names i) && true) (of_one (is i) c)));
      held = till;
    }
till-at op.Greater c x v is h at = cc h
till-at op.GreaterEq c x v is h at = cc h
till-at op.LessEq c x v is h at = cc h
till-at op.Exact c x v is h at = cc h
till-at op.Caret c x v is h at = cc h
till-at op.Tilde c x v is h at = cc h
till-at op.Wildcard c x v is h at = cc h

-- a requirement holds all versions from its release on
end-holds : (cs : List Held) (x v : Parts) → end_by cs ≡ Some x → is_at_most x v ≡ true → HoldsBy cs v
end-holds [] x v h at = cc h
end-holds (c ∷ []) x v h at = from-at c.0 c x v refl h at
end-holds (c ∷ d ∷ rest) x v h at = cc h

-- a requirement holds all versions below its release
start-holds : (cs : List Held) (x v : Parts) → start_by cs ≡ Some x → is_below v x ≡ true → HoldsBy cs v
start-holds [] x v h at = cc h
start-holds (c ∷ []) x v h at = till-at c.0 c x v refl h at
start-holds (c ∷ d ∷ rest) x v h at = cc h

-- ---- lists of requirements

-- some interval of the requirements holds a version
abbrev SomeHolds : List (List Held) → Parts → Type 0
SomeHolds rs v = list_any (λ i. holds i v) (filter_map interval_of rs) ≡ true

here : (r : List Held) (rs : List (List Held)) (v : Parts) → HoldsBy r v → SomeHolds (r ∷ rs) v
here r rs v h =
    ap (λ (o : Option Interval). list_any (λ i. holds i v) (cons_option o (filter_map interval_of rs))) h.is
    ∙ or_left (holds h.interval v) (list_any (λ i. holds i v) (filter_map interval_of rs)) h.held

further : (o : Option Interval) (is : List Interval) (v : Parts) → list_any (λ i. holds i v) is ≡ true → list_any (λ i. holds i v) (cons_option o is) ≡ true
further None is v h = h
further (Some i) is v h = or_right (holds i v) (list_any (λ i. holds i v) is) h

first-end-step : (o : Option Parts) (r : List Held) (rs : List (List Held)) (x v : Parts) → end_by r ≡ o → or_else o (first_end rs) ≡ Some x
    → is_at_most x v ≡ true → (first_end rs ≡ Some x → SomeHolds rs v) → SomeHolds (r ∷ rs) v
first-end-step None r rs x v is h at more = further (interval_of r) (filter_map interval_of rs) v (more h)
first-end-step (Some y) r rs x v is h at more = here r rs v (end-holds r x v (is ∙ h) at)

first-end-holds : (rs : List (List Held)) (x v : Parts) → first_end rs ≡ Some x → is_at_most x v ≡ true → SomeHolds rs v
first-end-holds [] x v h at = cc h
first-end-holds (r ∷ rs) x v h at = first-end-step (end_by r) r rs x v refl h at (λ more. first-end-holds rs x v more at)

first-start-step : (o : Option Parts) (r : List Held) (rs : List (List Held)) (x v : Parts) → start_by r ≡ o → or_else o (first_start rs) ≡ Some x
    → is_below v x ≡ true → (first_start rs ≡ Some x → SomeHolds rs v) → SomeHolds (r ∷ rs) v
first-start-step None r rs x v is h at more = further (interval_of r) (filter_map interval_of rs) v (more h)
first-start-step (Some y) r rs x v is h at more = here r rs v (start-holds r x v (is ∙ h) at)

first-start-holds : (rs : List (List Held)) (x v : Parts) → first_start rs ≡ Some x → is_below v x ≡ true → SomeHolds rs v
first-start-holds [] x v h at = cc h
first-start-holds (r ∷ rs) x v h at = first-start-step (start_by r) r rs x v refl h at (λ more. first-start-holds rs x v more at)

-- the intervals of two lists hold a version if those of one of them do
joined : (rs qs : List (List Held)) (v : Parts) → list_any (λ i. holds i v) (filter_map interval_of (rs ++ qs))
    ≡ (list_any (λ i. holds i v) (filter_map interval_of rs) || list_any (λ i. holds i v) (filter_map interval_of qs))
joined rs qs v =
    ap (list_any (λ i. holds i v)) (filter_map-append interval_of rs qs)
    ∙ list_any-append (λ i. holds i v) (filter_map interval_of rs) (filter_map interval_of qs)

in-front : (rs qs : List (List Held)) (v : Parts) → SomeHolds rs v → SomeHolds (rs ++ qs) v
in-front rs qs v h = joined rs qs v ∙ or_left _ _ h

at-back : (rs qs : List (List Held)) (v : Parts) → SomeHolds qs v → SomeHolds (rs ++ qs) v
at-back rs qs v h = joined rs qs v ∙ or_right _ _ h

-- ---- the span

-- a version that an interval holds is not affected
unaffected : (ls : Lists) (v : Parts) → SomeHolds (ls.patched ++ ls.unaffected) v → affected ls v ≡ false
unfolding affected
unaffected ls v h = ap not h

ended : (ls : Lists) (x v : Parts) → first_end ls.patched ≡ Some x → is_at_most x v ≡ true → affected ls v ≡ false
ended ls x v is at = unaffected ls v (in-front ls.patched ls.unaffected v (first-end-holds ls.patched x v is at))

unstarted : (ls : Lists) (x v : Parts) → first_start ls.unaffected ≡ Some x → is_below v x ≡ true → affected ls v ≡ false
unstarted ls x v is at = unaffected ls v (at-back ls.patched ls.unaffected v (first-start-holds ls.unaffected x v is at))

till-span : (ls : Lists) (v : Parts) (o : Option Parts) → first_end ls.patched ≡ o → affected ls v ≡ true → is_until o v ≡ true
till-span ls v None is h = refl
till-span ls v (Some x) is h = elim (cases_Bool (is_below v x)) [
  | inl below ↦ below
  | inr not_so ↦ cc (sym h ∙ ended ls x v is (not_below v x not_so))
]

from-span : (ls : Lists) (v : Parts) (o : Option Parts) → first_start ls.unaffected ≡ o → affected ls v ≡ true → is_from o v ≡ true
from-span ls v None is h = refl
from-span ls v (Some x) is h = elim (cases_Bool (is_at_most x v)) [
  | inl from ↦ from
  | inr not_so ↦ cc (sym h ∙ unstarted ls x v is (not_at_most x v not_so))
]

-- an affected version is in the span
pub in-span : (ls : Lists) (v : Parts) → affected ls v ≡ true → in_range (span_of ls) v ≡ true
unfolding span_of
in-span ls v h = and_from _ _ (from-span ls v (first_start ls.unaffected) refl h) (till-span ls v (first_end ls.patched) refl h)

past : (ls : Lists) (v w : Parts) (o : Option Parts) → first_end ls.patched ≡ o → is_until o v ≡ false → is_at_most v w ≡ true → affected ls w ≡ false
past ls v w None is h at = cc h
past ls v w (Some x) is h at = ended ls x w is (at_most-trans x v w (not_below v x h) at)

-- from a version on that is not below the end of the span no version is affected
pub past-span : (ls : Lists) (v w : Parts) → is_until (span_of ls).fixed v ≡ false → is_at_most v w ≡ true → affected ls w ≡ false
unfolding span_of
past-span ls v w h at = past ls v w (first_end ls.patched) refl h at
