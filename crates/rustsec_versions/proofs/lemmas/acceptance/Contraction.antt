-- Merged intervals stay the same if two that overlap are replaced by one, or if one that overlaps no other is added.
use Rattle.std.proofs.Common.{◌≡◌, ◌&&◌, ◌||◌, ◌⊎◌, Bool, true, false, List, [], ◌∷◌, refl, sym, ap, ◌∙◌, inl, inr, subst}
use Rattle.std.specs.Prelude.{Contains}
use Rattle.std.specs.List.{list_any}
use Rattle.std.proofs.lemmas.Bool.{and_from, cases_Bool, not-true, or_cases, or_left, or_parts, or_right}
use Rattle.semver.specs.Parse.{Parts}
use Rattle.rustsec_versions.specs.interval.Apart.{are_apart}
use Rattle.rustsec_versions.specs.interval.Interval.{Endpoint, Interval, end_le, holds, is_after, is_before, overlap, reaches, start_le}
use Rattle.rustsec_versions.specs.acceptance.Merged.{AreMerged, IsJoined, IsMergedOf, itself, onward}
use Rattle.rustsec_versions.specs.order.Precedence.{precedence}
use Rattle.rustsec_versions.proofs.lemmas.interval.Bounds.{start_le-after, start_le-reaches, start_le-self, start_le-trans, end_le-before, end_le-reaches, end_le-self, end_le-total, end_le-trans, later-first, later-is, later-second, later_end, reaches-start_le}
use Rattle.rustsec_versions.proofs.lemmas.ranges.Adjacent.{AllAdmissible}
use Rattle.rustsec_versions.proofs.lemmas.acceptance.Clashes.{overlap-sym}
use Rattle.rustsec_versions.proofs.lemmas.ranges.Complement.{ordered}
use Rattle.rustsec_versions.proofs.lemmas.lists.Contained.{contains-cases, contains-here, contains-nil, contains-there}
use Rattle.rustsec_versions.proofs.lemmas.requirement.Sound.{admissible-reaches, and-first, and-second}

-- ---- small steps

weaker : (a b : Bool) → (a ≡ true → b ≡ true) → b ≡ (a || b)
weaker true b h = h refl
weaker false b h = refl

stronger : (a b : Bool) → (b ≡ true → a ≡ true) → a ≡ (a || b)
stronger true b h = refl
stronger false true h = h refl
stronger false false h = refl

left-out : (a b : Bool) → (a ≡ false → b ≡ true) → b ≡ false → a ≡ true
left-out true b h k = refl
left-out false b h k = cc (sym (h refl) ∙ k)

-- ---- an interval and the one that it goes on to

-- an interval with its end extended to that of another one, if that is later
abbrev pub stretched : Interval → Interval → Interval
stretched i j = record { start = i.start; end = later_end i.end j.end }

-- a test that is monotone in ends passes the later of two ends if it passes one
later : (test : Endpoint → Bool) → ((d e : Endpoint) → end_le d e ≡ true → test d ≡ true → test e ≡ true)
    → (d e : Endpoint) → test (later_end d e) ≡ (test d || test e)
later test rises d e = elim (cases_Bool (end_le e d)) [
  | inl low ↦ rw low (stronger (test d) (test e) (rises e d low))
  | inr high ↦ rw high (weaker (test d) (test e) (rises d e (end_le-total e d high)))
]

-- two tests of a start and an end, such that the second start's test passes if the first end's fails
both : (a b c d : Bool) → (c ≡ true → a ≡ true) → (b ≡ false → c ≡ true) → (a && (b || d)) ≡ ((a && b) || (c && d))
both true true c d h k = refl
both true false c d h k = rw (k refl) refl
both false b true d h k = cc (h refl)
both false true false d h k = refl
both false false false d h k = cc (k refl)

module _ (i j : Interval) (begins : start_le i.start j.start ≡ true) (meet : overlap precedence i j ≡ true) where
  -- the stretched interval overlaps what one of the two overlaps
  pub stretched-overlap : (k : Interval) → reaches precedence k.start k.end ≡ true
      → overlap precedence (stretched i j) k ≡ (overlap precedence i k || overlap precedence j k)
  stretched-overlap k near =
      ap (λ (b : Bool). reaches precedence i.start k.end && b) (later (λ e. reaches precedence k.start e) (end_le-reaches k.start) i.end j.end)
      ∙ both (reaches precedence i.start k.end) (reaches precedence k.start i.end) (reaches precedence j.start k.end) (reaches precedence k.start j.end)
      (start_le-reaches i.start j.start k.end begins)
      (λ far. start_le-reaches j.start k.start k.end (reaches-start_le j.start k.start i.end (and-second _ _ meet) far) near)

  -- and holds what one of the two holds
  pub stretched-holds : (v : Parts) → holds (stretched i j) v ≡ (holds i v || holds j v)
  stretched-holds v =
      ap (λ (b : Bool). is_after i.start v && b) (later (λ e. is_before e v) (λ d e h. end_le-before d e h v) i.end j.end)
      ∙ both (is_after i.start v) (is_before i.end v) (is_after j.start v) (is_before j.end v) (start_le-after i.start j.start begins v)
      (λ past. left-out (is_after j.start v) (is_before i.end v) (ordered j.start i.end (and-second _ _ meet) v) past)

-- ---- intervals of a list

all-reach : (is : List Interval) → AllAdmissible is → (k : Interval) → Contains is k → reaches precedence k.start k.end ≡ true
all-reach [] all k c = absurd (contains-nil k c)
all-reach (i ∷ is) all k c = elim (contains-cases k i is c) [
  | inl e ↦ subst (λ (x : Interval). reaches precedence x.start x.end ≡ true) e (admissible-reaches i all.0)
  | inr d ↦ all-reach is all.1 k d
]

-- ---- chains

overlap-self : (k : Interval) → reaches precedence k.start k.end ≡ true → overlap precedence k k ≡ true
overlap-self k near = and_from _ _ near near

overlap-flipped : (x y : Interval) → overlap precedence x y ≡ true → overlap precedence y x ≡ true
overlap-flipped x y h = overlap-sym precedence y x ∙ h

linked : {is : List Interval} {x y z : Interval} → IsJoined is x y → IsJoined is y z → IsJoined is x z
linked (itself x) r = r
linked (onward x w c h q) r = onward x w c h (linked q r)

-- ---- two that overlap, taken as one

-- the interval of the shorter list that an interval maps to: the stretched one for each of the two, itself for any
-- other
data Stands (i j : Interval) (rest : List Interval) : Interval → Interval → Type 0 where
  first : Stands i j rest i (stretched i j)
  second : Stands i j rest j (stretched i j)
  other : (k : Interval) → Contains rest k → Stands i j rest k k

module _ (i j : Interval) (rest : List Interval) where
  stands-in : (x y : Interval) → Stands i j rest x y → Contains (i ∷ j ∷ rest) x
  stands-in x y first = contains-here i (j ∷ rest)
  stands-in x y second = contains-there j i (j ∷ rest) (contains-here j rest)
  stands-in x y (other k c) = contains-there k i (j ∷ rest) (contains-there k j rest c)

  stands-for : (x y : Interval) → Stands i j rest x y → Contains (stretched i j ∷ rest) y
  stands-for x y first = contains-here (stretched i j) rest
  stands-for x y second = contains-here (stretched i j) rest
  stands-for x y (other k c) = contains-there k (stretched i j) rest c

  -- each interval of the longer list maps to one of the shorter list
  standing : (x : Interval) → Contains (i ∷ j ∷ rest) x → (y : Interval) × Stands i j rest x y
  standing x c = elim (contains-cases x i (j ∷ rest) c) [
    | inl e ↦ (stretched i j, subst (λ (z : Interval). Stands i j rest z (stretched i j)) e first)
    | inr d ↦ elim (contains-cases x j rest d) [
      | inl e ↦ (stretched i j, subst (λ (z : Interval). Stands i j rest z (stretched i j)) e second)
      | inr b ↦ (x, other x b)
    ]
  ]

  -- for each interval of the shorter list, one with the same start maps to it, and one with the same end
  stood-start : (y : Interval) → Contains (stretched i j ∷ rest) y → (x : Interval) × Stands i j rest x y × (x.start ≡ y.start)
  stood-start y c = elim (contains-cases y (stretched i j) rest c) [
    | inl e ↦ subst (λ (z : Interval). (x : Interval) × Stands i j rest x z × (x.start ≡ z.start)) e (i, first, refl)
    | inr d ↦ (y, other y d, refl)
  ]

  stretched-end : (later_end i.end j.end ≡ i.end) ⊎ (later_end i.end j.end ≡ j.end)
      → (x : Interval) × Stands i j rest x (stretched i j) × (x.end ≡ later_end i.end j.end)
  stretched-end (inl e) = (i, first, sym e)
  stretched-end (inr e) = (j, second, sym e)

  stood-end : (y : Interval) → Contains (stretched i j ∷ rest) y → (x : Interval) × Stands i j rest x y × (x.end ≡ y.end)
  stood-end y c = elim (contains-cases y (stretched i j) rest c) [
    | inl e ↦ subst (λ (z : Interval). (x : Interval) × Stands i j rest x z × (x.end ≡ z.end)) e (stretched-end (later-is i.end j.end))
    | inr d ↦ (y, other y d, refl)
  ]

  stands-ends : (x y : Interval) → Stands i j rest x y → end_le x.end y.end ≡ true
  stands-ends x y first = later-first i.end j.end
  stands-ends x y second = later-second i.end j.end
  stands-ends x y (other k c) = end_le-self k.end

module _ (i j : Interval) (rest : List Interval) (all : AllAdmissible (i ∷ j ∷ rest)) (begins : start_le i.start j.start ≡ true)
    (meet : overlap precedence i j ≡ true) where
  stands-begins : (x y : Interval) → Stands i j rest x y → start_le y.start x.start ≡ true
  stands-begins x y first = start_le-self i.start
  stands-begins x y second = begins
  stands-begins x y (other k c) = start_le-self k.start

  for-reaches : (x y : Interval) → Stands i j rest x y → reaches precedence y.start y.end ≡ true
  for-reaches x y first = end_le-reaches i.start i.end _ (later-first i.end j.end) (admissible-reaches i all.0)
  for-reaches x y second = end_le-reaches i.start i.end _ (later-first i.end j.end) (admissible-reaches i all.0)
  for-reaches x y (other k c) = all-reach rest all.1.1 k c

  -- what an interval overlaps, its image overlaps
  taken : (x y : Interval) → Stands i j rest x y → (k : Interval) → reaches precedence k.start k.end ≡ true → overlap precedence x k ≡ true
      → overlap precedence y k ≡ true
  taken x y first k near h = stretched-overlap i j begins meet k near ∙ or_left _ _ h
  taken x y second k near h = stretched-overlap i j begins meet k near ∙ or_right _ _ h
  taken x y (other z c) k near h = h

  -- what the image overlaps, some interval overlaps that is joined with the first one
  given : (x y : Interval) → Stands i j rest x y → (k : Interval) → reaches precedence k.start k.end ≡ true → overlap precedence y k ≡ true
      → (u : Interval) × Contains (i ∷ j ∷ rest) u × IsJoined (i ∷ j ∷ rest) x u × IsJoined (i ∷ j ∷ rest) u x × (overlap precedence u k ≡ true)
  given x y first k near h =
      let at-i = contains-here i (j ∷ rest) in
      let at-j = contains-there j i (j ∷ rest) (contains-here j rest) in
      elim (or_cases _ _ (sym (stretched-overlap i j begins meet k near) ∙ h)) [
        | inl a ↦ (i, at-i, itself i, itself i, a)
        | inr b ↦ (j, at-j, onward i j at-j meet (itself j), onward j i at-i (overlap-flipped i j meet) (itself i), b)
      ]
  given x y second k near h =
      let at-i = contains-here i (j ∷ rest) in
      let at-j = contains-there j i (j ∷ rest) (contains-here j rest) in
      elim (or_cases _ _ (sym (stretched-overlap i j begins meet k near) ∙ h)) [
        | inl a ↦ (i, at-i, onward j i at-i (overlap-flipped i j meet) (itself i), onward i j at-j meet (itself j), a)
        | inr b ↦ (j, at-j, itself j, itself j, b)
      ]
  given x y (other z c) k near h = (z, contains-there z i (j ∷ rest) (contains-there z j rest c), itself z, itself z, h)

  -- if two intervals of the shorter list overlap, the intervals that map to them are joined
  step : (x y w z : Interval) → Stands i j rest x y → Stands i j rest w z → overlap precedence y z ≡ true → IsJoined (i ∷ j ∷ rest) x w
  step x y w z s t h =
      let u = given x y s z (for-reaches w z t) h in
      let v = given w z t u.0 (all-reach (i ∷ j ∷ rest) all u.0 u.1) (overlap-flipped u.0 z u.4) in
      linked u.2 (onward u.0 v.0 v.1 (overlap-flipped v.0 u.0 v.4) v.3)

  back : {y w : Interval} → IsJoined (stretched i j ∷ rest) y w → (x u : Interval) → Stands i j rest x y → Stands i j rest u w
      → IsJoined (i ∷ j ∷ rest) x u
  back (itself y) x u s t = step x y u y s t (overlap-self y (for-reaches x y s))
  back (onward y z c h r) x u s t =
      let w = stood-start i j rest z c in
      linked (step x y w.0 z s w.1 h) (back r w.0 u w.1 t)

  forth : {x u : Interval} → IsJoined (i ∷ j ∷ rest) x u → (y : Interval) → Stands i j rest x y
      → (w : Interval) × Stands i j rest u w × IsJoined (stretched i j ∷ rest) y w
  forth (itself x) y s = (y, s, itself y)
  forth (onward x z c h r) y s =
      let t = standing i j rest z c in
      let q = forth r t.0 t.1 in
      let one = taken x y s z (all-reach (i ∷ j ∷ rest) all z c) h in
      let two = taken z t.0 t.1 y (for-reaches x y s) (overlap-flipped y z one) in
      (q.0, q.1, onward y t.0 (stands-for i j rest z t.0 t.1) (overlap-flipped t.0 y two) q.2)

  kept : (x y m : Interval) → Stands i j rest x y → IsMergedOf (stretched i j ∷ rest) y m → IsMergedOf (i ∷ j ∷ rest) x m
  kept x y m s g =
      let a = g.start in
      let b = g.end in
      let v = stood-start i j rest a.0 a.1.0 in
      let w = stood-end i j rest b.0 b.1.0 in
      record {
        start = (v.0, (stands-in i j rest v.0 a.0 v.1, (back a.1.1.0 x v.0 s v.1, v.2 ∙ a.1.1.1)));
        least = λ u c r. let t = forth r y s in
            start_le-trans m.start t.0.start u.start (g.least t.0 (stands-for i j rest u t.0 t.1) t.2) (stands-begins u t.0 t.1);
        end = (w.0, (stands-in i j rest w.0 b.0 w.1, (back b.1.1.0 x w.0 s w.1, w.2 ∙ b.1.1.1)));
        greatest = λ u c r. let t = forth r y s in
            end_le-trans u.end t.0.end m.end (stands-ends i j rest u t.0 t.1) (g.greatest t.0 (stands-for i j rest u t.0 t.1) t.2);
      }

  -- two intervals that overlap can be replaced by one, which begins at the start of the first
  pub contract : (ms : List Interval) → AreMerged (stretched i j ∷ rest) ms → AreMerged (i ∷ j ∷ rest) ms
  contract ms a = record {
    each = λ x c. let t = standing i j rest x c in
        let m = a.each t.0 (stands-for i j rest x t.0 t.1) in
        (m.0, (m.1.0, kept x t.0 m.0 t.1 m.1.1));
    only = λ m c. let y = a.only m c in
        let x = stood-start i j rest y.0 y.1.0 in
        (x.0, (stands-in i j rest x.0 y.0 x.1, kept x.0 y.0 m x.1 y.1.1));
    apart = a.apart;
  }

-- ---- one that overlaps no other

-- the test for overlap fails for each element of a list if it fails for the list
any-none : (i : Interval) (is : List Interval) → list_any (overlap precedence i) is ≡ false → (k : Interval) → Contains is k → overlap precedence i k ≡ false
any-none i [] far k c = absurd (contains-nil k c)
any-none i (j ∷ is) far k c = elim (contains-cases k j is c) [
  | inl e ↦ subst (λ (x : Interval). overlap precedence i x ≡ false) e (or_parts _ _ far).0
  | inr d ↦ any-none i is (or_parts _ _ far).1 k d
]

module _ (i : Interval) (is : List Interval) (all : AllAdmissible (i ∷ is)) (far : list_any (overlap precedence i) is ≡ false) where
  -- a chain from it stays there
  alone : {x k : Interval} → IsJoined (i ∷ is) x k → i ≡ x → i ≡ k
  alone (itself x) e = e
  alone (onward x z c h r) e = elim (contains-cases z i is c) [
    | inl f ↦ alone r f
    | inr d ↦ let meet : overlap precedence i z ≡ true = rw (e) h in cc (sym (any-none i is far z d) ∙ meet)
  ]

  wider : {x k : Interval} → IsJoined is x k → IsJoined (i ∷ is) x k
  wider (itself x) = itself x
  wider (onward x z c h r) = onward x z (contains-there z i is c) h (wider r)

  -- a chain from another one stays among the others
  narrower : {x k : Interval} → IsJoined (i ∷ is) x k → Contains is x → Contains is k × IsJoined is x k
  narrower (itself x) c = (c, itself x)
  narrower (onward x z c h r) d = elim (contains-cases z i is c) [
    | inl e ↦ let meet : overlap precedence x i ≡ true = rw e h in cc (sym (any-none i is far x d) ∙ overlap-flipped x i meet)
    | inr b ↦ let q = narrower r b in (q.0, onward x z b h q.1)
  ]

  own : IsMergedOf (i ∷ is) i i
  own = record {
    start = (i, (contains-here i is, (itself i, refl)));
    least = λ k c r. subst (λ (x : Interval). start_le i.start x.start ≡ true) (alone r refl) (start_le-self i.start);
    end = (i, (contains-here i is, (itself i, refl)));
    greatest = λ k c r. subst (λ (x : Interval). end_le x.end i.end ≡ true) (alone r refl) (end_le-self i.end);
  }

  still : (x m : Interval) → Contains is x → IsMergedOf is x m → IsMergedOf (i ∷ is) x m
  still x m c g =
      let a = g.start in
      let b = g.end in
      record {
        start = (a.0, (contains-there a.0 i is a.1.0, (wider a.1.1.0, a.1.1.1)));
        least = λ k d r. let q = narrower r c in g.least k q.0 q.1;
        end = (b.0, (contains-there b.0 i is b.1.0, (wider b.1.1.0, b.1.1.1)));
        greatest = λ k d r. let q = narrower r c in g.greatest k q.0 q.1;
      }

  -- an interval that overlaps no other is its own merged one
  pub extend : (ms : List Interval) → list_any (overlap precedence i) ms ≡ false → AreMerged is ms → AreMerged (i ∷ is) (i ∷ ms)
  extend ms clear a = record {
    each = λ x c. elim (contains-cases x i is c) [
      | inl e ↦ (i, (contains-here i ms, subst (λ (z : Interval). IsMergedOf (i ∷ is) z i) e own))
      | inr d ↦ let m = a.each x d in (m.0, (contains-there m.0 i ms m.1.0, still x m.0 d m.1.1))
    ];
    only = λ m c. elim (contains-cases m i ms c) [
      | inl e ↦ (i, (contains-here i is, subst (λ (z : Interval). IsMergedOf (i ∷ is) i z) e own))
      | inr d ↦ let x = a.only m d in (x.0, (contains-there x.0 i is x.1.0, still x.0 m x.1.0 x.1.1))
    ];
    apart = rw clear a.apart;
  }

-- no intervals have no merged ones
pub nothing : AreMerged [] []
nothing = record { each = λ i c. absurd (contains-nil i c); only = λ m c. absurd (contains-nil m c); apart = refl }

-- intervals that do not overlap are their own merged intervals
pub apart-merged : (is : List Interval) → AllAdmissible is → are_apart precedence is ≡ true → AreMerged is is
apart-merged [] all apart = nothing
apart-merged (i ∷ is) all apart =
    let far = not-true _ (and-first _ _ apart) in
    extend i is all far is far (apart-merged is all.1 (and-second _ _ apart))
