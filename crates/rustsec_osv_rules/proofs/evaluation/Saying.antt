-- What events that take turns say, in their order.
use Rattle.std.proofs.Common.{◌≡◌, ◌∙◌, ◌&&◌, ◌||◌, Bool, true, false, cond, List, [], ◌∷◌, ap, inl, inr, map, refl, sym}
use Rattle.std.specs.Prelude.{filter, not}
use Rattle.std.specs.List.{AllByRecursion, fold, list_any}
use Rattle.std.proofs.lemmas.Bool.{cases_Bool, or_left}
use Rattle.std.proofs.lemmas.List.Elements.{All-from_recursion, recursion_from_All}
use Rattle.std.proofs.lemmas.List.Kept.{AllPairs-cons}
use Rattle.std.proofs.Common.{suc, arith}
use Rattle.semver.specs.Parse.{Parts}
use Rattle.rustsec_versions.specs.order.Precedence.{is_at_most}
use Rattle.rustsec_versions.proofs.lemmas.order.Rising.{Rises}
use Rattle.rustsec_osv.specs.DocumentEvents.{Event, fixed, introduced, last_affected}
use Rattle.rustsec_osv.specs.Events.{ends_introduced, events_say, is_introduction, is_until}
use Rattle.rustsec_osv_rules.specs.evaluation.Event.{seen, version_of}
use Rattle.rustsec_osv_rules.specs.evaluation.Order.{at}
use Rattle.rustsec_osv_rules.specs.evaluation.Pairs.{HaveOwnVersions, are_at_one}
use Rattle.rustsec_osv_rules.specs.evaluation.Range.{IsRangeAnswer, after, is_before_limits, is_limit, say_in_order}
use Rattle.rustsec_osv_rules.proofs.evaluation.OneOrder.{Other, Own, one-order}
use Rattle.rustsec_osv_rules.proofs.evaluation.Turning.{Turns}

-- what events say after an answer before them
abbrev pub say : Parts → Bool → List Event → Bool
say v before es = fold (after v) before (map seen es)

-- ---- the last event at or below the version decides

abbrev ends_with : Bool → List Event → Bool
ends_with before [] = before
ends_with before (e ∷ es) = ends_introduced (e ∷ es)

ends_step : (before : Bool) (e : Event) (es : List Event) → ends_with before (e ∷ es) ≡ ends_with (is_introduction e) es
ends_step before e [] = refl
ends_step before e (f ∷ es) = refl

starts_false : (es : List Event) → ends_with false es ≡ ends_introduced es
starts_false [] = refl
starts_false (e ∷ es) = refl

or-false : (a b : Bool) → a ≡ false → (a || b) ≡ b
or-false true b h = cc h
or-false false b h = refl

not-and-true : (a b : Bool) → a ≡ true → (not a && b) ≡ false
not-and-true true b h = refl
not-and-true false b h = cc h

not-and-false : (a b : Bool) → a ≡ false → (not a && b) ≡ b
not-and-false true b h = cc h
not-and-false false b h = refl

pub say-introduced : (v w : Parts) (before : Bool) (es : List Event) → is_at_most w v ≡ true → say v before (introduced w ∷ es) ≡ say v true es
say-introduced v w before es h = ap (λ b. say v b es) (or_left (is_at_most w v) before h)

pub say-introduced_above : (v w : Parts) (before : Bool) (es : List Event) → is_at_most w v ≡ false
    → say v before (introduced w ∷ es) ≡ say v before es
say-introduced_above v w before es h = ap (λ b. say v b es) (or-false (is_at_most w v) before h)

pub say-fixed : (v w : Parts) (before : Bool) (es : List Event) → is_at_most w v ≡ true → say v before (fixed w ∷ es) ≡ say v false es
say-fixed v w before es h = ap (λ b. say v b es) (not-and-true (is_at_most w v) before h)

pub say-fixed_above : (v w : Parts) (before : Bool) (es : List Event) → is_at_most w v ≡ false → say v before (fixed w ∷ es) ≡ say v before es
say-fixed_above v w before es h = ap (λ b. say v b es) (not-and-false (is_at_most w v) before h)

counted : (v : Parts) (before : Bool) (e : Event) (es : List Event) → is_until v e ≡ true
    → ends_with (is_introduction e) (filter (is_until v) es) ≡ ends_with before (filter (is_until v) (e ∷ es))
counted v before e es h =
    sym (ends_step before e (filter (is_until v) es))
    ∙ sym (ap (λ b. ends_with before (cond b (e ∷ filter (is_until v) es) (filter (is_until v) es))) h)

passed : (v : Parts) (before : Bool) (e : Event) (es : List Event) → is_until v e ≡ false
    → ends_with before (filter (is_until v) es) ≡ ends_with before (filter (is_until v) (e ∷ es))
passed v before e es h = sym (ap (λ b. ends_with before (cond b (e ∷ filter (is_until v) es) (filter (is_until v) es))) h)

say-ends : (v : Parts) (first before : Bool) (es : List Event) → Turns first es → say v before es ≡ ends_with before (filter (is_until v) es)
say-ends v first before [] t = refl
say-ends v first before (introduced w ∷ es) t = elim (cases_Bool (is_at_most w v)) [
  | inl low ↦ say-introduced v w before es low ∙ (say-ends v false true es t.1 ∙ counted v before (introduced w) es low)
  | inr high ↦ say-introduced_above v w before es high ∙ (say-ends v false before es t.1 ∙ passed v before (introduced w) es high)
]
say-ends v first before (fixed w ∷ es) t = elim (cases_Bool (is_at_most w v)) [
  | inl low ↦ say-fixed v w before es low ∙ (say-ends v true false es t.1 ∙ counted v before (fixed w) es low)
  | inr high ↦ say-fixed_above v w before es high ∙ (say-ends v true before es t.1 ∙ passed v before (fixed w) es high)
]
say-ends v first before (last_affected w ∷ es) t = absurd t

pub says : (v : Parts) (es : List Event) → Turns true es → say_in_order (map seen es) v ≡ events_say es v
unfolding events_say
says v es t = say-ends v true false es t ∙ starts_false (filter (is_until v) es)

-- ---- no limits

no_limit : (es : List Event) → list_any is_limit (map seen es) ≡ false
no_limit [] = refl
no_limit (introduced v ∷ es) = no_limit es
no_limit (fixed v ∷ es) = no_limit es
no_limit (last_affected v ∷ es) = no_limit es

pub before-limits : (es : List Event) (v : Parts) → is_before_limits (map seen es) v ≡ true
before-limits es v = rw (no_limit es) refl

-- ---- versions of their own

own-first : (e : Event) (es : List Event) → AllByRecursion (λ f. are_at_one e f ≡ false) es → Other (at e) (map seen es)
own-first e [] a = tt
own-first e (f ∷ es) a = (a.0, own-first e es a.1)

pub own-from : (es : List Event) → HaveOwnVersions es → Own (map seen es)
own-from [] h = tt
own-from (e ∷ es) h = (
  own-first e es (recursion_from_All (λ f. are_at_one e f ≡ false) es (λ k d low. h 0 (suc k) d (omega arith) (omega arith))),
  own-from es (λ i j d low high. h (suc i) (suc j) d (omega arith) (omega arith)),
)

other-first : (e : Event) (es : List Event) → Other (at e) (map seen es) → AllByRecursion (λ f. are_at_one e f ≡ false) es
other-first e [] o = tt
other-first e (f ∷ es) o = (o.0, other-first e es o.1)

pub own-to : (es : List Event) → Own (map seen es) → HaveOwnVersions es
own-to [] o = λ i j d low high. absurd (omega arith)
own-to (e ∷ es) o = AllPairs-cons (λ a b. are_at_one a b ≡ false) e es (All-from_recursion (λ f. are_at_one e f ≡ false) es (other-first e es o.0)) (own-to es o.1)

pub seen-versions : (es : List Event) → map version_of (map seen es) ≡ map at es
seen-versions [] = refl
seen-versions (e ∷ es) = λ i. at e ∷ seen-versions es i

-- events that rise, no two of them at one version, have one answer
pub range-answer : (es : List Event) (v : Parts) (answer : Bool) → Rises (map at es) → Own (map seen es) → IsRangeAnswer (map seen es) v answer
    → answer ≡ say_in_order (map seen es) v
range-answer es v answer r own h =
    let order = one-order (map seen es) h.ordered (rw (seen-versions es) r) own h.same h.rise in
    let step : (is_before_limits (map seen es) v && say_in_order h.ordered v) ≡ say_in_order h.ordered v = rw (before-limits es v) refl in
    h.is ∙ (step ∙ ap (λ (xs : List _). say_in_order xs v) order)
