-- Intervals that are apart follow one another, by their cuts, in the order of their starts.
use Rattle.std.proofs.Common.{◌≡◌, ◌||◌, Bool, true, false, List, [], ◌∷◌, Option, Some, None, map, refl, inl, inr}
use Rattle.std.specs.Prelude.{not}
use Rattle.std.specs.Ordering.{is_le, is_lt, ordering_then}
use Rattle.std.specs.declared.cmp.Ordering.{Ordering}
use Rattle.std.specs.declared.cmp.Ordering.TheVariants.{Less, Equal, Greater}
use Rattle.std.proofs.lemmas.Bool.{cases_Bool}
use Rattle.semver.specs.Parse.{Parts}
use Rattle.rustsec_versions.specs.interval.Apart.{are_apart}
use Rattle.rustsec_versions.specs.interval.StartOrder.{start_order}
use Rattle.rustsec_versions.specs.ranges.Complement.{cut}
use Rattle.rustsec_versions.specs.interval.Interval.{Endpoint, Interval, exclusive, inclusive, overlap, reaches, unbounded}
use Rattle.rustsec_versions.specs.order.Precedence.{is_at_most, is_below, precedence, version_order}
use Rattle.rustsec_versions.specs.ranges.Ranges.{Range, lower_cut, upper_cut}
use Rattle.rustsec_versions.specs.requirement.Requirement.{is_admissible, end_cut_exists, start_cut_exists}
use Rattle.rustsec_versions.proofs.lemmas.acceptance.Clashes.{AllSound}
use Rattle.rustsec_versions.proofs.lemmas.order.LeastAbove.{successor-least, successor-there, successor-valid}
use Rattle.rustsec_versions.proofs.lemmas.order.PrecedenceLaws.{at_most-below, at_most-trans, below-at_most, below-weak, not_at_most, not_below}
use Rattle.rustsec_versions.proofs.lemmas.requirement.Sound.{IsSoundEnd, IsSoundInterval, admissible-end, admissible-reaches, admissible-start, and-first, and-second, order-plain}

-- ---- ranges that follow one another

-- an end is there, and the next start is there and not below it
abbrev pub Follows : Option Parts → Option Parts → Type 0
Follows (Some u) (Some l) = is_at_most u l ≡ true
Follows (Some u) None = ⊥
Follows None l = ⊥

-- a start is not above its end
abbrev pub InOrder : Option Parts → Option Parts → Type 0
InOrder None f = Unit {0}
InOrder (Some l) None = Unit {0}
InOrder (Some l) (Some u) = is_at_most l u ≡ true

-- ranges that follow what ends here
abbrev pub FollowOn : Option Parts → List Range → Type 0
FollowOn u [] = Unit {0}
FollowOn u (c ∷ cs) = Follows u c.introduced

abbrev pub IsChain : List Range → Type 0
IsChain [] = Unit {0}
IsChain (c ∷ cs) = InOrder c.introduced c.fixed × FollowOn c.fixed cs × IsChain cs

-- what the gaps start from: nothing, or an end that the ranges follow
abbrev pub StartsFrom : Option Parts → List Range → Type 0
StartsFrom None cs = Unit {0}
StartsFrom (Some u) cs = FollowOn (Some u) cs

-- ---- bounds

-- a start that is not at or below an end has its cut at or above the cut of the end
pub start-after : (s e : Endpoint) → reaches precedence s e ≡ false → start_cut_exists s ≡ true → end_cut_exists e ≡ true → IsSoundEnd s
    → Follows (upper_cut e) (lower_cut s)
start-after unbounded e far a b sound = cc far
start-after (inclusive s) unbounded far a b sound = cc far
start-after (exclusive s) unbounded far a b sound = cc far
start-after (inclusive s) (exclusive e) far a b sound = not_below s e far
start-after (exclusive s) (exclusive e) far a b sound =
    let t = successor-there s a in
    rw t.1 (at_most-trans e s t.0 (not_below s e far) (below-weak s t.0 ((successor-least s t.0 t.1).above)))
start-after (inclusive s) (inclusive e) far a b sound =
    let u = successor-there e b in
    rw u.1 ((successor-least e u.0 u.1).least s sound.version (not_at_most s e far))
start-after (exclusive s) (inclusive e) far a b sound =
    let t = successor-there s a in
    let u = successor-there e b in
    let above = at_most-below e s t.0 (not_below s e far) ((successor-least s t.0 t.1).above) in
    rw (t.1, u.1) ((successor-least e u.0 u.1).least t.0 ((successor-valid s t.0 sound.version t.1).0) above)

-- if a start is at or below its end, so are their cuts
pub cut-in_order : (s e : Endpoint) → reaches precedence s e ≡ true → start_cut_exists s ≡ true → end_cut_exists e ≡ true → IsSoundEnd e
    → InOrder (lower_cut s) (upper_cut e)
cut-in_order unbounded e near a b sound = tt
cut-in_order (inclusive s) unbounded near a b sound = tt
cut-in_order (exclusive s) unbounded near a b sound = let t = successor-there s a in rw t.1 tt
cut-in_order (inclusive s) (exclusive e) near a b sound = below-weak s e near
cut-in_order (inclusive s) (inclusive e) near a b sound =
    let u = successor-there e b in
    rw u.1 (below-weak s u.0 (at_most-below s e u.0 near ((successor-least e u.0 u.1).above)))
cut-in_order (exclusive s) (exclusive e) near a b sound =
    let t = successor-there s a in
    rw t.1 ((successor-least s t.0 t.1).least e sound.version near)
cut-in_order (exclusive s) (inclusive e) near a b sound =
    let t = successor-there s a in
    let u = successor-there e b in
    rw (t.1, u.1) (below-weak t.0 u.0 (at_most-below t.0 e u.0 ((successor-least s t.0 t.1).least e sound.version near) ((successor-least e u.0 u.1).above)))

-- ---- the order of starts

not-less : (o r : Ordering) → is_lt (ordering_then o r) ≡ false → is_lt o ≡ false
not-less Less r h = cc h
not-less Equal r h = refl
not-less Greater r h = refl

not-less-ties : (o r : Ordering) → is_lt (ordering_then o r) ≡ false → is_le o ≡ true → is_lt r ≡ false
not-less-ties Less r h k = cc h
not-less-ties Equal r h k = h
not-less-ties Greater r h k = cc k

-- by the order of starts, the first version is at most the second
first-at_most : (a b : Parts) (r : Ordering) → a.4 ≡ [] → b.4 ≡ [] → is_lt (ordering_then (version_order b a) r) ≡ false → is_at_most a b ≡ true
first-at_most a b r p q h =
    not_below b a (rw (order-plain b a q p) at (not-less (version_order b a) r h))

-- and below it where only the first of the two kinds comes before the second
first-below : (a b : Parts) → a.4 ≡ [] → b.4 ≡ [] → is_lt (ordering_then (version_order b a) Less) ≡ false → is_below a b ≡ true
first-below a b p q h = elim (cases_Bool (is_at_most b a)) [
  | inl low ↦ cc (not-less-ties (precedence b a) Less (rw (order-plain b a q p) at h) low)
  | inr high ↦ not_at_most b a high
]

-- what a later start reaches, an earlier one reaches
pub earlier-reaches : (s t e : Endpoint) → IsSoundEnd s → IsSoundEnd t → is_lt (start_order t s) ≡ false → reaches precedence t e ≡ true → reaches precedence s e ≡ true
earlier-reaches unbounded t e p q h near = refl
earlier-reaches (inclusive s) unbounded e p q h near = cc h
earlier-reaches (exclusive s) unbounded e p q h near = cc h
earlier-reaches (inclusive s) (inclusive t) unbounded p q h near = refl
earlier-reaches (inclusive s) (exclusive t) unbounded p q h near = refl
earlier-reaches (exclusive s) (inclusive t) unbounded p q h near = refl
earlier-reaches (exclusive s) (exclusive t) unbounded p q h near = refl
earlier-reaches (inclusive s) (inclusive t) (inclusive e) p q h near = at_most-trans s t e (first-at_most s t _ p.plain q.plain h) near
earlier-reaches (inclusive s) (inclusive t) (exclusive e) p q h near = at_most-below s t e (first-at_most s t _ p.plain q.plain h) near
earlier-reaches (inclusive s) (exclusive t) (inclusive e) p q h near = below-weak s e (at_most-below s t e (first-at_most s t _ p.plain q.plain h) near)
earlier-reaches (inclusive s) (exclusive t) (exclusive e) p q h near = at_most-below s t e (first-at_most s t _ p.plain q.plain h) near
earlier-reaches (exclusive s) (inclusive t) (inclusive e) p q h near = below-at_most s t e (first-below s t p.plain q.plain h) near
earlier-reaches (exclusive s) (inclusive t) (exclusive e) p q h near = below-at_most s t e (first-below s t p.plain q.plain h) (below-weak t e near)
earlier-reaches (exclusive s) (exclusive t) (inclusive e) p q h near = at_most-below s t e (first-at_most s t _ p.plain q.plain h) near
earlier-reaches (exclusive s) (exclusive t) (exclusive e) p q h near = at_most-below s t e (first-at_most s t _ p.plain q.plain h) near

-- ---- lists

-- starts that rise, neighbour by neighbour
abbrev pub StartsRise : List Interval → Type 0
StartsRise [] = Unit {0}
StartsRise (i ∷ []) = Unit {0}
StartsRise (i ∷ j ∷ is) = (is_lt (start_order j.start i.start) ≡ false) × StartsRise (j ∷ is)

abbrev pub AllAdmissible : List Interval → Type 0
AllAdmissible [] = Unit {0}
AllAdmissible (i ∷ is) = (is_admissible i ≡ true) × AllAdmissible is

-- of two intervals that do not overlap, the later one starts after the other ends
later-starts : (i j : Interval) → IsSoundInterval i → IsSoundInterval j → is_admissible i ≡ true → is_admissible j ≡ true
    → is_lt (start_order j.start i.start) ≡ false → overlap precedence i j ≡ false → Follows (upper_cut i.end) (lower_cut j.start)
later-starts i j p q a b rise far =
    let near = earlier-reaches i.start j.start j.end p.start q.start rise (admissible-reaches j b) in
    let past : reaches precedence j.start i.end ≡ false = rw near at far in
    start-after j.start i.end past (admissible-start j b) (admissible-end i a) q.start

pub not-or-first : (a b : Bool) → (not (a || b)) ≡ true → a ≡ false
not-or-first true b h = cc h
not-or-first false b h = refl

-- intervals in the order of their starts that do not overlap follow one another
pub chain : (is : List Interval) → AllSound is → AllAdmissible is → StartsRise is → are_apart precedence is ≡ true → IsChain (map cut is)
chain [] sound all rise apart = tt
chain (i ∷ []) sound all rise apart =
    (cut-in_order i.start i.end (admissible-reaches i all.0) (admissible-start i all.0) (admissible-end i all.0) sound.0.end, tt, tt)
chain (i ∷ j ∷ is) sound all rise apart =
    let far = not-or-first _ _ (and-first _ _ apart) in (
      cut-in_order i.start i.end (admissible-reaches i all.0) (admissible-start i all.0) (admissible-end i all.0) sound.0.end,
      later-starts i j sound.0 sound.1.0 all.0 all.1.0 rise.0 far,
      chain (j ∷ is) sound.1 all.1 rise.1 (and-second _ _ apart),
    )
