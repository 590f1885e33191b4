-- Laws of the two orders of bounds, by which starts and ends of merged intervals are compared.
use Rattle.std.proofs.Common.{◌≡◌, ◌⊎◌, true, false, cond, refl, sym, ap, ◌∙◌, inl, inr}
use Rattle.std.specs.Ordering.{is_lt}
use Rattle.std.proofs.lemmas.Bool.{cases_Bool}
use Rattle.semver.specs.Parse.{Parts}
use Rattle.rustsec_versions.specs.interval.StartOrder.{start_order}
use Rattle.rustsec_versions.specs.interval.Interval.{Endpoint, end_le, exclusive, inclusive, is_after, is_before, reaches, start_le, unbounded}
use Rattle.rustsec_versions.specs.order.Precedence.{is_at_most, precedence}
use Rattle.rustsec_versions.proofs.lemmas.ranges.Adjacent.{earlier-reaches}
use Rattle.rustsec_versions.proofs.lemmas.order.PrecedenceLaws.{at_most-below, at_most-not_below, at_most-trans, below-at_most, below-not_at_most, below-weak, not_at_most, not_below}
use Rattle.rustsec_versions.proofs.lemmas.requirement.Sound.{IsSoundEnd}
use Rattle.rustsec_versions.proofs.lemmas.ranges.Unique.{at_most-same}

at_most-self : (v : Parts) → is_at_most v v ≡ true
at_most-self v = elim (cases_Bool (is_at_most v v)) [
  | inl fine ↦ fine
  | inr other ↦ below-weak v v (not_at_most v v other)
]

-- ---- the order of starts

-- the order of starts is reflexive
pub start_le-self : (s : Endpoint) → start_le s s ≡ true
start_le-self unbounded = refl
start_le-self (exclusive s) = at_most-self s
start_le-self (inclusive s) = at_most-self s

-- the order of starts is transitive
pub start_le-trans : (s t u : Endpoint) → start_le s t ≡ true → start_le t u ≡ true → start_le s u ≡ true
start_le-trans unbounded t u h k = refl
start_le-trans (exclusive s) unbounded u h k = cc h
start_le-trans (inclusive s) unbounded u h k = cc h
start_le-trans (exclusive s) (exclusive t) unbounded h k = cc k
start_le-trans (exclusive s) (inclusive t) unbounded h k = cc k
start_le-trans (inclusive s) (exclusive t) unbounded h k = cc k
start_le-trans (inclusive s) (inclusive t) unbounded h k = cc k
start_le-trans (exclusive s) (exclusive t) (exclusive u) h k = at_most-trans s t u h k
start_le-trans (exclusive s) (exclusive t) (inclusive u) h k = at_most-below s t u h k
start_le-trans (exclusive s) (inclusive t) (exclusive u) h k = below-weak s u (below-at_most s t u h k)
start_le-trans (exclusive s) (inclusive t) (inclusive u) h k = below-at_most s t u h k
start_le-trans (inclusive s) (exclusive t) (exclusive u) h k = at_most-trans s t u h k
start_le-trans (inclusive s) (exclusive t) (inclusive u) h k = below-weak s u (at_most-below s t u h k)
start_le-trans (inclusive s) (inclusive t) (exclusive u) h k = at_most-trans s t u h k
start_le-trans (inclusive s) (inclusive t) (inclusive u) h k = at_most-trans s t u h k

-- the order of starts is total
pub start_le-total : (s t : Endpoint) → start_le s t ≡ false → start_le t s ≡ true
start_le-total unbounded t h = cc h
start_le-total (exclusive s) unbounded h = refl
start_le-total (inclusive s) unbounded h = refl
start_le-total (exclusive s) (exclusive t) h = below-weak t s (not_at_most s t h)
start_le-total (exclusive s) (inclusive t) h = not_below s t h
start_le-total (inclusive s) (exclusive t) h = not_at_most s t h
start_le-total (inclusive s) (inclusive t) h = below-weak t s (not_at_most s t h)

-- the order of starts is antisymmetric
pub start_le-same : (s t : Endpoint) → IsSoundEnd s → IsSoundEnd t → start_le s t ≡ true → start_le t s ≡ true → s ≡ t
start_le-same unbounded unbounded p q h k = refl
start_le-same unbounded (exclusive t) p q h k = cc k
start_le-same unbounded (inclusive t) p q h k = cc k
start_le-same (exclusive s) unbounded p q h k = cc h
start_le-same (inclusive s) unbounded p q h k = cc h
start_le-same (exclusive s) (exclusive t) p q h k = ap exclusive (at_most-same s t p.plain q.plain h k)
start_le-same (exclusive s) (inclusive t) p q h k = cc (sym k ∙ below-not_at_most s t h)
start_le-same (inclusive s) (exclusive t) p q h k = cc (sym k ∙ at_most-not_below s t h)
start_le-same (inclusive s) (inclusive t) p q h k = ap inclusive (at_most-same s t p.plain q.plain h k)

-- ---- the order of ends

-- the order of ends is reflexive
pub end_le-self : (e : Endpoint) → end_le e e ≡ true
end_le-self unbounded = refl
end_le-self (exclusive e) = at_most-self e
end_le-self (inclusive e) = at_most-self e

-- the order of ends is transitive
pub end_le-trans : (d e f : Endpoint) → end_le d e ≡ true → end_le e f ≡ true → end_le d f ≡ true
end_le-trans d e unbounded h k = refl
end_le-trans d unbounded (exclusive f) h k = cc k
end_le-trans d unbounded (inclusive f) h k = cc k
end_le-trans unbounded (exclusive e) (exclusive f) h k = cc h
end_le-trans unbounded (exclusive e) (inclusive f) h k = cc h
end_le-trans unbounded (inclusive e) (exclusive f) h k = cc h
end_le-trans unbounded (inclusive e) (inclusive f) h k = cc h
end_le-trans (exclusive d) (exclusive e) (exclusive f) h k = at_most-trans d e f h k
end_le-trans (exclusive d) (exclusive e) (inclusive f) h k = at_most-trans d e f h k
end_le-trans (exclusive d) (inclusive e) (exclusive f) h k = below-weak d f (at_most-below d e f h k)
end_le-trans (exclusive d) (inclusive e) (inclusive f) h k = at_most-trans d e f h k
end_le-trans (inclusive d) (exclusive e) (exclusive f) h k = below-at_most d e f h k
end_le-trans (inclusive d) (exclusive e) (inclusive f) h k = below-weak d f (below-at_most d e f h k)
end_le-trans (inclusive d) (inclusive e) (exclusive f) h k = at_most-below d e f h k
end_le-trans (inclusive d) (inclusive e) (inclusive f) h k = at_most-trans d e f h k

-- the order of ends is total
pub end_le-total : (d e : Endpoint) → end_le d e ≡ false → end_le e d ≡ true
end_le-total d unbounded h = cc h
end_le-total unbounded (exclusive e) h = refl
end_le-total unbounded (inclusive e) h = refl
end_le-total (exclusive d) (exclusive e) h = below-weak e d (not_at_most d e h)
end_le-total (exclusive d) (inclusive e) h = not_at_most d e h
end_le-total (inclusive d) (exclusive e) h = not_below d e h
end_le-total (inclusive d) (inclusive e) h = below-weak e d (not_at_most d e h)

-- the order of ends is antisymmetric
pub end_le-same : (d e : Endpoint) → IsSoundEnd d → IsSoundEnd e → end_le d e ≡ true → end_le e d ≡ true → d ≡ e
end_le-same unbounded unbounded p q h k = refl
end_le-same unbounded (exclusive e) p q h k = cc h
end_le-same unbounded (inclusive e) p q h k = cc h
end_le-same (exclusive d) unbounded p q h k = cc k
end_le-same (inclusive d) unbounded p q h k = cc k
end_le-same (exclusive d) (exclusive e) p q h k = ap exclusive (at_most-same d e p.plain q.plain h k)
end_le-same (exclusive d) (inclusive e) p q h k = cc (sym k ∙ at_most-not_below d e h)
end_le-same (inclusive d) (exclusive e) p q h k = cc (sym k ∙ below-not_at_most d e h)
end_le-same (inclusive d) (inclusive e) p q h k = ap inclusive (at_most-same d e p.plain q.plain h k)

-- ---- starts and ends

-- if a start reaches an end, each start at or below it reaches the end
pub start_le-reaches : (s t e : Endpoint) → start_le s t ≡ true → reaches precedence t e ≡ true → reaches precedence s e ≡ true
start_le-reaches unbounded t e h near = refl
start_le-reaches (exclusive s) unbounded e h near = cc h
start_le-reaches (inclusive s) unbounded e h near = cc h
start_le-reaches (exclusive s) (exclusive t) unbounded h near = refl
start_le-reaches (exclusive s) (inclusive t) unbounded h near = refl
start_le-reaches (inclusive s) (exclusive t) unbounded h near = refl
start_le-reaches (inclusive s) (inclusive t) unbounded h near = refl
start_le-reaches (exclusive s) (exclusive t) (exclusive e) h near = at_most-below s t e h near
start_le-reaches (exclusive s) (exclusive t) (inclusive e) h near = at_most-below s t e h near
start_le-reaches (exclusive s) (inclusive t) (exclusive e) h near = below-at_most s t e h (below-weak t e near)
start_le-reaches (exclusive s) (inclusive t) (inclusive e) h near = below-at_most s t e h near
start_le-reaches (inclusive s) (exclusive t) (exclusive e) h near = at_most-below s t e h near
start_le-reaches (inclusive s) (exclusive t) (inclusive e) h near = below-weak s e (at_most-below s t e h near)
start_le-reaches (inclusive s) (inclusive t) (exclusive e) h near = at_most-below s t e h near
start_le-reaches (inclusive s) (inclusive t) (inclusive e) h near = at_most-trans s t e h near

-- if a start reaches an end, it reaches each end at or above it
pub end_le-reaches : (s d e : Endpoint) → end_le d e ≡ true → reaches precedence s d ≡ true → reaches precedence s e ≡ true
end_le-reaches unbounded d e h near = refl
end_le-reaches (exclusive s) d unbounded h near = refl
end_le-reaches (inclusive s) d unbounded h near = refl
end_le-reaches (exclusive s) unbounded (exclusive e) h near = cc h
end_le-reaches (exclusive s) unbounded (inclusive e) h near = cc h
end_le-reaches (inclusive s) unbounded (exclusive e) h near = cc h
end_le-reaches (inclusive s) unbounded (inclusive e) h near = cc h
end_le-reaches (exclusive s) (exclusive d) (exclusive e) h near = below-at_most s d e near h
end_le-reaches (exclusive s) (exclusive d) (inclusive e) h near = below-at_most s d e near h
end_le-reaches (exclusive s) (inclusive d) (exclusive e) h near = below-at_most s d e near (below-weak d e h)
end_le-reaches (exclusive s) (inclusive d) (inclusive e) h near = below-at_most s d e near h
end_le-reaches (inclusive s) (exclusive d) (exclusive e) h near = below-at_most s d e near h
end_le-reaches (inclusive s) (exclusive d) (inclusive e) h near = below-weak s e (below-at_most s d e near h)
end_le-reaches (inclusive s) (inclusive d) (exclusive e) h near = at_most-below s d e near h
end_le-reaches (inclusive s) (inclusive d) (inclusive e) h near = at_most-trans s d e near h

-- a start that reaches an end is at or below each start that does not
pub reaches-start_le : (s t e : Endpoint) → reaches precedence s e ≡ true → reaches precedence t e ≡ false → start_le s t ≡ true
reaches-start_le unbounded t e near far = refl
reaches-start_le (exclusive s) unbounded e near far = cc far
reaches-start_le (inclusive s) unbounded e near far = cc far
reaches-start_le (exclusive s) (exclusive t) unbounded near far = cc far
reaches-start_le (exclusive s) (inclusive t) unbounded near far = cc far
reaches-start_le (inclusive s) (exclusive t) unbounded near far = cc far
reaches-start_le (inclusive s) (inclusive t) unbounded near far = cc far
reaches-start_le (exclusive s) (exclusive t) (exclusive e) near far = below-weak s t (below-at_most s e t near (not_below t e far))
reaches-start_le (exclusive s) (exclusive t) (inclusive e) near far = below-weak s t (below-at_most s e t near (not_below t e far))
reaches-start_le (exclusive s) (inclusive t) (exclusive e) near far = below-at_most s e t near (not_below t e far)
reaches-start_le (exclusive s) (inclusive t) (inclusive e) near far = below-at_most s e t near (below-weak e t (not_at_most t e far))
reaches-start_le (inclusive s) (exclusive t) (exclusive e) near far = below-weak s t (below-at_most s e t near (not_below t e far))
reaches-start_le (inclusive s) (exclusive t) (inclusive e) near far = at_most-trans s e t near (not_below t e far)
reaches-start_le (inclusive s) (inclusive t) (exclusive e) near far = below-weak s t (below-at_most s e t near (not_below t e far))
reaches-start_le (inclusive s) (inclusive t) (inclusive e) near far = below-weak s t (at_most-below s e t near (not_at_most t e far))

-- ---- bounds and versions

-- a version after a start is after each start at or below it
pub start_le-after : (s t : Endpoint) → start_le s t ≡ true → (v : Parts) → is_after t v ≡ true → is_after s v ≡ true
start_le-after unbounded t h v after = refl
start_le-after (exclusive s) unbounded h v after = cc h
start_le-after (inclusive s) unbounded h v after = cc h
start_le-after (exclusive s) (exclusive t) h v after = at_most-below s t v h after
start_le-after (exclusive s) (inclusive t) h v after = below-at_most s t v h after
start_le-after (inclusive s) (exclusive t) h v after = below-weak s v (at_most-below s t v h after)
start_le-after (inclusive s) (inclusive t) h v after = at_most-trans s t v h after

-- a version before an end is before each end at or above it
pub end_le-before : (d e : Endpoint) → end_le d e ≡ true → (v : Parts) → is_before d v ≡ true → is_before e v ≡ true
end_le-before d unbounded h v before = refl
end_le-before unbounded (exclusive e) h v before = cc h
end_le-before unbounded (inclusive e) h v before = cc h
end_le-before (exclusive d) (exclusive e) h v before = below-at_most v d e before h
end_le-before (exclusive d) (inclusive e) h v before = below-weak v e (below-at_most v d e before h)
end_le-before (inclusive d) (exclusive e) h v before = at_most-below v d e before h
end_le-before (inclusive d) (inclusive e) h v before = at_most-trans v d e before h

-- ---- the order by which the code sorts

-- no version is below itself, so no start reaches an exclusive end at its own version
not-around : (v : Parts) → reaches precedence (inclusive v) (exclusive v) ≡ true → ⊥
not-around v h = cc (sym h ∙ at_most-not_below v v (at_most-self v))

-- of two starts that the order doesn't turn round, the first begins by the second
pub rises-start_le : (s t : Endpoint) → IsSoundEnd s → IsSoundEnd t → is_lt (start_order t s) ≡ false → start_le s t ≡ true
rises-start_le unbounded t p q h = refl
rises-start_le (exclusive s) unbounded p q h = cc h
rises-start_le (inclusive s) unbounded p q h = cc h
rises-start_le (exclusive s) (inclusive t) p q h = earlier-reaches (exclusive s) (inclusive t) (inclusive t) p q h (at_most-self t)
rises-start_le (inclusive s) (inclusive t) p q h = earlier-reaches (inclusive s) (inclusive t) (inclusive t) p q h (at_most-self t)
rises-start_le (exclusive s) (exclusive t) p q h = elim (cases_Bool (is_at_most s t)) [
  | inl fine ↦ fine
  | inr other ↦ absurd (not-around s (earlier-reaches (exclusive s) (exclusive t) (exclusive s) p q h (not_at_most s t other)))
]
rises-start_le (inclusive s) (exclusive t) p q h = elim (cases_Bool (is_at_most s t)) [
  | inl fine ↦ fine
  | inr other ↦ absurd (not-around s (earlier-reaches (inclusive s) (exclusive t) (exclusive s) p q h (not_at_most s t other)))
]

-- ---- the later one of two ends

-- the first one if both are at one place
abbrev pub later_end : Endpoint → Endpoint → Endpoint
later_end d e = cond (end_le e d) d e

-- the first end is at or below the later one
pub later-first : (d e : Endpoint) → end_le d (later_end d e) ≡ true
later-first d e = elim (cases_Bool (end_le e d)) [
  | inl low ↦ rw low (end_le-self d)
  | inr high ↦ rw high (end_le-total e d high)
]

-- and so does the second
pub later-second : (d e : Endpoint) → end_le e (later_end d e) ≡ true
later-second d e = elim (cases_Bool (end_le e d)) [
  | inl low ↦ rw low low
  | inr high ↦ rw high (end_le-self e)
]

-- the later one is one of the two
pub later-is : (d e : Endpoint) → (later_end d e ≡ d) ⊎ (later_end d e ≡ e)
later-is d e = elim (cases_Bool (end_le e d)) [
  | inl low ↦ inl (rw low refl)
  | inr high ↦ inr (rw high refl)
]
