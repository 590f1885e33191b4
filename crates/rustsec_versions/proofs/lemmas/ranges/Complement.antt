-- The gaps between intervals that follow one another: they hold what no interval holds, they follow one another, and
-- their cuts give the ranges.
use Rattle.std.proofs.Common.{◌≡◌, ◌&&◌, ◌||◌, ◌+◌, ◌<◌, ℕ, zero, suc, Bool, true, false, List, [], ◌∷◌, Option, Some, get_or, length, map, refl, ap, ◌∙◌, arith}
use Rattle.std.specs.Prelude.{not}
use Rattle.std.specs.List.{AllAdjacentBelow, list_any}
use Rattle.std.specs.Ordering.{is_lt}
use Rattle.semver.specs.Parse.{Parts}
use Rattle.rustsec_versions.specs.interval.Apart.{are_apart}
use Rattle.rustsec_versions.specs.ranges.Between.{AreInTurn, gap_to, complement_after, complement_between, opposite_bound}
use Rattle.rustsec_versions.specs.interval.StartOrder.{start_order}
use Rattle.rustsec_versions.specs.ranges.Complement.{HasValidBounds, IsValidBound, cut, gap_before, complement_beyond, complement_from}
use Rattle.rustsec_versions.specs.interval.Interval.{Endpoint, Interval, exclusive, holds, inclusive, is_after, is_before, overlap, reaches, unbounded}
use Rattle.rustsec_versions.specs.order.Precedence.{IsVersion, precedence}
use Rattle.rustsec_versions.specs.ranges.Ranges.{Range, in_ranges, lower_cut, upper_cut}
use Rattle.rustsec_versions.specs.requirement.Requirement.{is_admissible, end_cut_exists, start_cut_exists}
use Rattle.rustsec_versions.proofs.lemmas.ranges.Adjacent.{AllAdmissible, StartsRise, earlier-reaches, not-or-first}
use Rattle.rustsec_versions.proofs.lemmas.acceptance.Clashes.{AllSound}
use Rattle.rustsec_versions.proofs.lemmas.interval.Cuts.{holds-cut}
use Rattle.rustsec_versions.proofs.lemmas.order.LeastAbove.{successor-there}
use Rattle.rustsec_versions.proofs.lemmas.order.PrecedenceLaws.{at_most-below, at_most-not_below, at_most-trans, below-at_most, below-not, below-not_at_most, below-weak, not_at_most, not_below}
use Rattle.rustsec_versions.proofs.lemmas.requirement.Sound.{IsSoundEnd, IsSoundInterval, admissible-end, admissible-reaches, admissible-start, and-first, and-second}

-- ---- intervals that follow one another

-- a version before an end is not after a start
abbrev pub IsPastEnd : Endpoint → Endpoint → Type 0
IsPastEnd e s = (v : Parts) → is_before e v ≡ true → is_after s v ≡ false

-- a version that is not after its start is before its end
abbrev pub IsOrdered : Interval → Type 0
IsOrdered i = (v : Parts) → is_after i.start v ≡ false → is_before i.end v ≡ true

abbrev pub ArePastEnd : Endpoint → List Interval → Type 0
ArePastEnd e [] = Unit {0}
ArePastEnd e (i ∷ is) = IsPastEnd e i.start

abbrev pub IsRow : List Interval → Type 0
IsRow [] = Unit {0}
IsRow (i ∷ is) = IsOrdered i × ArePastEnd i.end is × IsRow is

-- what the gaps begin from: a version that is not after it is not after the first start
abbrev pub BeginsFrom : Endpoint → List Interval → Type 0
BeginsFrom from [] = Unit {0}
BeginsFrom from (i ∷ is) = (v : Parts) → is_after from v ≡ false → is_after i.start v ≡ false

pub ordered : (s e : Endpoint) → reaches precedence s e ≡ true → IsOrdered (record { start = s; end = e })
ordered unbounded e near v h = cc h
ordered (exclusive s) unbounded near v h = refl
ordered (inclusive s) unbounded near v h = refl
ordered (inclusive s) (inclusive e) near v h = below-weak v e (below-at_most v s e (not_at_most s v h) near)
ordered (inclusive s) (exclusive e) near v h = below-at_most v s e (not_at_most s v h) (below-weak s e near)
ordered (exclusive s) (inclusive e) near v h = below-weak v e (at_most-below v s e (not_below s v h) near)
ordered (exclusive s) (exclusive e) near v h = at_most-below v s e (not_below s v h) near

past-end : (s e : Endpoint) → reaches precedence s e ≡ false → IsPastEnd e s
past-end unbounded e far v h = cc far
past-end (inclusive s) unbounded far v h = cc far
past-end (exclusive s) unbounded far v h = cc far
past-end (inclusive s) (inclusive e) far v h = below-not_at_most v s (at_most-below v e s h (not_at_most s e far))
past-end (inclusive s) (exclusive e) far v h = below-not_at_most v s (below-at_most v e s h (not_below s e far))
past-end (exclusive s) (inclusive e) far v h = at_most-not_below v s (at_most-trans v e s h (not_below s e far))
past-end (exclusive s) (exclusive e) far v h = at_most-not_below v s (at_most-trans v e s (below-weak v e h) (not_below s e far))

next-past-end : (i j : Interval) → IsSoundInterval i → IsSoundInterval j → is_admissible j ≡ true → is_lt (start_order j.start i.start) ≡ false
    → overlap precedence i j ≡ false → IsPastEnd i.end j.start
next-past-end i j p q b rise far =
    let near = earlier-reaches i.start j.start j.end p.start q.start rise (admissible-reaches j b) in
    past-end j.start i.end (rw near at far)

-- intervals in the order of their starts that do not overlap follow one another
pub row : (is : List Interval) → AllSound is → AllAdmissible is → StartsRise is → are_apart precedence is ≡ true → IsRow is
row [] sound all rise apart = tt
row (i ∷ []) sound all rise apart = (ordered i.start i.end (admissible-reaches i all.0), tt, tt)
row (i ∷ j ∷ is) sound all rise apart = (
  ordered i.start i.end (admissible-reaches i all.0),
  next-past-end i j sound.0 sound.1.0 all.1.0 rise.0 (not-or-first _ _ (and-first _ _ apart)),
  row (j ∷ is) sound.1 all.1 rise.1 (and-second _ _ apart),
)

-- ---- the other side of a bound

double : (a b : Bool) → a ≡ not b → b ≡ not a
double true true h = cc h
double true false h = refl
double false true h = refl
double false false h = cc h

-- a version that is not after the opposite of an end is before the end
not-past-end : (e : Endpoint) (v : Parts) → is_after (opposite_bound e) v ≡ false → is_before e v ≡ true
not-past-end unbounded v h = refl
not-past-end (exclusive e) v h = not_at_most e v h
not-past-end (inclusive e) v h = not_below e v h

begins-past-end : (e : Endpoint) (is : List Interval) → ArePastEnd e is → BeginsFrom (opposite_bound e) is
begins-past-end e [] b = tt
begins-past-end e (i ∷ is) b = λ v h. b v (not-past-end e v h)

-- ---- what the gaps hold

none-later : (e : Endpoint) (is : List Interval) (v : Parts) → ArePastEnd e is → IsRow is → is_before e v ≡ true → list_any (λ i. holds i v) is ≡ false
none-later e [] v b r h = refl
none-later e (i ∷ is) v b r h = rw (b v h) (none-later i.end is v r.1 r.2 (r.0 v (b v h)))

nothing : (f x : Bool) → x ≡ ((f && false) || x)
nothing true x = refl
nothing false x = refl

to-held : (from s : Endpoint) (rest : List Interval) (v : Parts)
    → list_any (λ g. holds g v) (gap_to from s rest) ≡ ((is_after from v && not (is_after s v)) || list_any (λ g. holds g v) rest)
to-held from unbounded rest v = nothing (is_after from v) (list_any (λ g. holds g v) rest)
to-held from (exclusive s) rest v =
    ap (λ (b : Bool). (is_after from v && b) || list_any (λ g. holds g v) rest) (double _ _ (below-not s v))
to-held from (inclusive s) rest v = ap (λ (b : Bool). (is_after from v && b) || list_any (λ g. holds g v) rest) (below-not v s)

after-held : (e : Endpoint) (rest : List Interval) (v : Parts) (x : Bool) → list_any (λ g. holds g v) rest ≡ (is_after (opposite_bound e) v && not x)
    → list_any (λ g. holds g v) (complement_after e rest) ≡ (not (is_before e v) && not x)
after-held unbounded rest v x h = refl
after-held (exclusive e) rest v x h = h ∙ ap (λ (b : Bool). b && not x) (double _ _ (below-not v e))
after-held (inclusive e) rest v x h = h ∙ ap (λ (b : Bool). b && not x) (below-not e v)

-- one interval and the gaps around it, by the tests of a version: after the bound from which the gaps begin, after
-- the start, before the end, and in a later interval
round : (f a b x : Bool) → (f ≡ false → a ≡ false) → (a ≡ false → b ≡ true) → (b ≡ true → x ≡ false)
    → ((f && not a) || (not b && not x)) ≡ (f && not ((a && b) || x))
round false true b x p q r = cc (p refl)
round false false true x p q r = refl
round false false false x p q r = cc (q refl)
round true true true true p q r = cc (r refl)
round true true true false p q r = refl
round true true false x p q r = refl
round true false true true p q r = cc (r refl)
round true false true false p q r = refl
round true false false x p q r = cc (q refl)

last : (f : Bool) → ((f && true) || false) ≡ (f && true)
last true = refl
last false = refl

-- the gaps hold what no interval holds, valid versions or not
pub complement-hold : (from : Endpoint) (is : List Interval) (v : Parts) → BeginsFrom from is → IsRow is
    → list_any (λ g. holds g v) (complement_between from is) ≡ (is_after from v && not (list_any (λ i. holds i v) is))
unfolding complement_between
complement-hold from [] v s r = last (is_after from v)
complement-hold from (i ∷ is) v s r =
    let rest = complement-hold (opposite_bound i.end) is v (begins-past-end i.end is r.1) r.2 in
    let later = list_any (λ j. holds j v) is in
    to-held from i.start (complement_after i.end (complement_between (opposite_bound i.end) is)) v
    ∙ ap (λ (b : Bool). (is_after from v && not (is_after i.start v)) || b) (after-held i.end (complement_between (opposite_bound i.end) is) v later rest)
    ∙ round (is_after from v) (is_after i.start v) (is_before i.end v) later (s v) (r.0 v) (none-later i.end is v r.1 r.2)

-- ---- the gaps follow one another

abbrev pub Turn : Interval → Interval → Type 0
Turn g h = (v : Parts) → is_after h.start v ≡ true → (is_after g.start v ≡ true) × (is_before g.end v ≡ false)

abbrev pub AllTurn : List Interval → Type 0
AllTurn [] = Unit {0}
AllTurn (g ∷ []) = Unit {0}
AllTurn (g ∷ h ∷ gs) = Turn g h × AllTurn (h ∷ gs)

-- a version after the start of the first gap is after a bound
abbrev pub LeadsOn : Endpoint → List Interval → Type 0
LeadsOn from [] = Unit {0}
LeadsOn from (g ∷ gs) = (v : Parts) → is_after g.start v ≡ true → is_after from v ≡ true

not-false : (a b : Bool) → (a ≡ false → b ≡ false) → b ≡ true → a ≡ true
not-false true b h k = refl
not-false false b h k = cc (h refl)

is-past-end : (e : Endpoint) (v : Parts) → is_after (opposite_bound e) v ≡ true → (e ≡ unbounded → ⊥) → is_before e v ≡ false
is-past-end unbounded v h b = absurd (b refl)
is-past-end (exclusive e) v h b = at_most-not_below e v h
is-past-end (inclusive e) v h b = below-not_at_most e v h

leads-to : (from s e : Endpoint) (rest : List Interval) → ((v : Parts) → is_after from v ≡ false → is_after s v ≡ false) → LeadsOn (opposite_bound e) rest
    → LeadsOn from (gap_to from s (complement_after e rest))
leads-to from (exclusive s) e rest b l = λ v h. h
leads-to from (inclusive s) e rest b l = λ v h. h
leads-to from unbounded unbounded rest b l = tt
leads-to from unbounded (exclusive e) [] b l = tt
leads-to from unbounded (inclusive e) [] b l = tt
leads-to from unbounded (exclusive e) (g ∷ gs) b l = λ v h. not-false _ true (b v) refl
leads-to from unbounded (inclusive e) (g ∷ gs) b l = λ v h. not-false _ true (b v) refl

complement-lead : (from : Endpoint) (is : List Interval) → BeginsFrom from is → IsRow is → LeadsOn from (complement_between from is)
unfolding complement_between
complement-lead from [] s r = λ v h. h
complement-lead from (i ∷ is) s r = leads-to from i.start i.end _ s (complement-lead (opposite_bound i.end) is (begins-past-end i.end is r.1) r.2)

turn-cons : (g : Interval) (from : Endpoint) (gs : List Interval)
    → ((v : Parts) → is_after from v ≡ true → (is_after g.start v ≡ true) × (is_before g.end v ≡ false)) → LeadsOn from gs → AllTurn gs → AllTurn (g ∷ gs)
turn-cons g from [] step l t = tt
turn-cons g from (h ∷ gs) step l t = (λ v k. step v (l v k), t)

-- a version after the end of an interval is after its start
past-both : (s e : Endpoint) (v : Parts) → IsOrdered (record { start = s; end = e }) → is_before e v ≡ false → is_after s v ≡ true
past-both s e v o h = not-false (is_after s v) (not (is_before e v)) (λ k. rw (o v k) refl) (rw h refl)

turns-to : (from s e : Endpoint) (rest : List Interval) → ((v : Parts) → is_after from v ≡ false → is_after s v ≡ false)
    → IsOrdered (record { start = s; end = e }) → LeadsOn (opposite_bound e) rest → AllTurn rest → AllTurn (gap_to from s (complement_after e rest))
turns-to from unbounded unbounded rest b o l t = tt
turns-to from unbounded (exclusive e) rest b o l t = t
turns-to from unbounded (inclusive e) rest b o l t = t
turns-to from (exclusive s) unbounded rest b o l t = tt
turns-to from (inclusive s) unbounded rest b o l t = tt
turns-to from (exclusive s) (exclusive e) rest b o l t = turn-cons (record { start = from; end = inclusive s }) (inclusive e) rest (λ v h.
    let past = past-both (exclusive s) (exclusive e) v o (at_most-not_below e v h) in
    (not-false _ _ (b v) past, below-not_at_most s v past)) l t
turns-to from (exclusive s) (inclusive e) rest b o l t = turn-cons (record { start = from; end = inclusive s }) (exclusive e) rest (λ v h.
    let past = past-both (exclusive s) (inclusive e) v o (below-not_at_most e v h) in
    (not-false _ _ (b v) past, below-not_at_most s v past)) l t
turns-to from (inclusive s) (exclusive e) rest b o l t = turn-cons (record { start = from; end = exclusive s }) (inclusive e) rest (λ v h.
    let past = past-both (inclusive s) (exclusive e) v o (at_most-not_below e v h) in
    (not-false _ _ (b v) past, at_most-not_below s v past)) l t
turns-to from (inclusive s) (inclusive e) rest b o l t = turn-cons (record { start = from; end = exclusive s }) (exclusive e) rest (λ v h.
    let past = past-both (inclusive s) (inclusive e) v o (below-not_at_most e v h) in
    (not-false _ _ (b v) past, at_most-not_below s v past)) l t

complement-all_turn : (from : Endpoint) (is : List Interval) → BeginsFrom from is → IsRow is → AllTurn (complement_between from is)
unfolding complement_between
complement-all_turn from [] s r = tt
complement-all_turn from (i ∷ is) s r =
    let begins = begins-past-end i.end is r.1 in
    turns-to from i.start i.end _ s r.0 (complement-lead (opposite_bound i.end) is begins r.2) (complement-all_turn (opposite_bound i.end) is begins r.2)

turn-at : (gs : List Interval) → AllTurn gs → (v : Parts)
    → AllAdjacentBelow (λ g h. is_after h.start v ≡ true → (is_after g.start v ≡ true) × (is_before g.end v ≡ false)) gs (length gs)
turn-at [] t v k d high = absurd (omega arith)
turn-at (g ∷ []) t v k d high = absurd (omega arith)
turn-at (g ∷ h ∷ gs) t v zero d high = t.0 v
turn-at (g ∷ h ∷ gs) t v (suc k) d high =
    let e : suc k + 1 ≡ suc (k + 1) = omega arith in
    rw e (turn-at (h ∷ gs) t.1 v k d (omega arith))

-- all intervals begin from no bound at all
pub from-nothing : (is : List Interval) → BeginsFrom unbounded is
from-nothing [] = tt
from-nothing (i ∷ is) = λ v h. cc h

pub complement-in_turn : (is : List Interval) → IsRow is → AreInTurn (complement_between unbounded is)
complement-in_turn is r = record { turn = turn-at _ (complement-all_turn unbounded is (from-nothing is) r) }

-- ---- the ranges by their cuts

opposite_bound-cut : (e : Endpoint) → lower_cut (opposite_bound e) ≡ upper_cut e
opposite_bound-cut unbounded = refl
opposite_bound-cut (exclusive v) = refl
opposite_bound-cut (inclusive v) = refl

to-cut : (from s : Endpoint) (gs : List Interval) (rs : List Range) → start_cut_exists s ≡ true → map cut gs ≡ rs
    → map cut (gap_to from s gs) ≡ gap_before (lower_cut from) (lower_cut s) rs
to-cut from unbounded gs rs h e = e
to-cut from (inclusive s) gs rs h e = ap (λ (us : List Range). record { introduced = lower_cut from; fixed = Some s } ∷ us) e
to-cut from (exclusive s) gs rs h e =
    let t = successor-there s h in
    rw t.1 (ap (λ (us : List Range). record { introduced = lower_cut from; fixed = Some t.0 } ∷ us) e)

after-cut : (e : Endpoint) (gs : List Interval) (rs : List Range) → end_cut_exists e ≡ true → map cut gs ≡ rs
    → map cut (complement_after e gs) ≡ complement_beyond (upper_cut e) rs
after-cut unbounded gs rs h k = refl
after-cut (exclusive e) gs rs h k = k
after-cut (inclusive e) gs rs h k = let t = successor-there e h in rw t.1 k

-- by their cuts, the gaps between intervals are those between the intervals' cuts
pub complement-cut : (from : Endpoint) (is : List Interval) → AllAdmissible is → map cut (complement_between from is) ≡ complement_from (lower_cut from) (map cut is)
unfolding complement_between complement_from
complement-cut from [] a = refl
complement-cut from (i ∷ is) a =
    let rest = complement-cut (opposite_bound i.end) is a.1 ∙ ap (λ (o : Option Parts). complement_from o (map cut is)) (opposite_bound-cut i.end) in
    to-cut from i.start _ _ (admissible-start i a.0) (after-cut i.end _ _ (admissible-end i a.0) rest)

-- ---- the bounds of gaps

-- gaps whose bounds are valid versions, with the versions above that they want
abbrev pub IsFit : Interval → Type 0
IsFit g = HasValidBounds g × (start_cut_exists g.start ≡ true) × (end_cut_exists g.end ≡ true)

abbrev pub AllFit : List Interval → Type 0
AllFit [] = Unit {0}
AllFit (g ∷ gs) = IsFit g × AllFit gs

opposite_bound-valid : (e : Endpoint) → IsSoundEnd e → IsValidBound (opposite_bound e)
opposite_bound-valid unbounded h = tt
opposite_bound-valid (exclusive v) h = h.version
opposite_bound-valid (inclusive v) h = h.version

opposite_bound-start : (e : Endpoint) → end_cut_exists e ≡ true → start_cut_exists (opposite_bound e) ≡ true
opposite_bound-start unbounded h = refl
opposite_bound-start (exclusive v) h = refl
opposite_bound-start (inclusive v) h = h

to-fit : (from s : Endpoint) (gs : List Interval) → IsValidBound from → start_cut_exists from ≡ true → IsSoundEnd s → start_cut_exists s ≡ true → AllFit gs → AllFit (gap_to from s gs)
to-fit from unbounded gs v b p h a = a
to-fit from (exclusive s) gs v b p h a = ((record { start = v; end = p.version }, b, h), a)
to-fit from (inclusive s) gs v b p h a = ((record { start = v; end = p.version }, b, refl), a)

after-fit : (e : Endpoint) (gs : List Interval) → AllFit gs → AllFit (complement_after e gs)
after-fit unbounded gs a = tt
after-fit (exclusive e) gs a = a
after-fit (inclusive e) gs a = a

pub complement-fit : (from : Endpoint) (is : List Interval) → IsValidBound from → start_cut_exists from ≡ true → AllSound is → AllAdmissible is → AllFit (complement_between from is)
unfolding complement_between
complement-fit from [] v b sound a = ((record { start = v; end = tt }, b, refl), tt)
complement-fit from (i ∷ is) v b sound a =
    to-fit from i.start _ v b sound.0.start (admissible-start i a.0) (after-fit i.end _
    (complement-fit (opposite_bound i.end) is (opposite_bound-valid i.end sound.0.end) (opposite_bound-start i.end (admissible-end i a.0)) sound.1 a.1))

pub fit-valid : (gs : List Interval) → AllFit gs → (k : ℕ) (d : Interval) → k < length gs → HasValidBounds (get_or gs k d)
fit-valid [] a k d h = absurd (omega arith)
fit-valid (g ∷ gs) a zero d h = a.0.0
fit-valid (g ∷ gs) a (suc k) d h = fit-valid gs a.1 k d (omega arith)

-- a valid version is in a range exactly if it is in its gap
pub fit-held : (gs : List Interval) (v : Parts) → AllFit gs → IsVersion v → in_ranges (map cut gs) v ≡ list_any (λ g. holds g v) gs
fit-held [] v a valid = refl
fit-held (g ∷ gs) v a valid = rw (← holds-cut g v a.0.1 a.0.2 valid, fit-held gs v a.1 valid) refl
