-- The law of the sweep: if it gives no merged intervals, it gives the first two that clash.
use Rattle.std.proofs.Common.{◌≡◌, ◌&&◌, Bool, true, false, cond, List, [], ◌∷◌, ◌++◌, Ok, Err, refl, sym, ap, ◌∙◌, subst, inl, inr}
use Rattle.std.specs.Prelude.{Contains, not}
use Rattle.std.specs.Result.{result_map_both}
use Rattle.std.proofs.lemmas.Bool.{cases_Bool}
use Rattle.rustsec_versions.specs.interval.Interval.{Endpoint, Interval, end_le, overlap}
use Rattle.rustsec_versions.specs.order.Precedence.{version_order}
use Rattle.rustsec_versions.specs.acceptance.FirstClash.{IsFirstClash}
use Rattle.rustsec_versions.specs.acceptance.Sweep.{TaggedInterval, all_swept, clashes, from_start, later, spans, swept}
use Rattle.rustsec_versions.proofs.lemmas.interval.Bounds.{end_le-reaches, end_le-self, end_le-total, end_le-trans}
use Rattle.rustsec_versions.proofs.lemmas.ranges.Adjacent.{AllAdmissible, StartsRise}
use Rattle.rustsec_versions.proofs.lemmas.acceptance.Clashes.{AllSound}
use Rattle.rustsec_versions.proofs.lemmas.lists.Contained.{contains-cases, contains-here, contains-nil, contains-there}
use Rattle.rustsec_versions.proofs.lemmas.requirement.Sound.{admissible-reaches, overlap-plain}
use Rattle.rustsec_versions.proofs.lemmas.acceptance.Swept.{AreReady, Found, all_swept-some, far-short, ready-later, ready-part, ready-tail}

-- ---- where the sweep stops

-- the sweep stops at two that clash: those before the second one are merged, and the first one ends last of them
record IsStopped (s : Endpoint) (c : TaggedInterval) (xs : List TaggedInterval) (a b : TaggedInterval) : Type 0 where
  before : List TaggedInterval
  after : List TaggedInterval
  merged : List TaggedInterval
  parts : xs ≡ before ++ b ∷ after
  is : swept s c before ≡ Ok merged
  earlier : Contains (c ∷ before) a
  last : (d : TaggedInterval) → Contains (c ∷ before) d → end_le d.interval.end a.interval.end ≡ true
  clash : clashes a b ≡ true

-- an interval that does not overlap the next one ends first
far-end : (i j : Interval) (is : List Interval) → AreReady (i ∷ j ∷ is) → overlap version_order i j ≡ false → end_le i.end j.end ≡ true
far-end i j is r far = elim (cases_Bool (end_le i.end j.end)) [
  | inl fine ↦ fine
  | inr other ↦
      let reached = end_le-reaches j.start j.end i.end (end_le-total i.end j.end other) (admissible-reaches j r.admissible.1.0) in
      cc (sym reached ∙ far-short i j is r far)
]

later-among : (c x : TaggedInterval) (ys : List TaggedInterval) → Contains (c ∷ x ∷ ys) (later c x)
later-among c x ys = one (end_le x.interval.end c.interval.end)
  where
    one : (b : Bool) → Contains (c ∷ x ∷ ys) (cond b c x)
    one true = contains-here c (x ∷ ys)
    one false = contains-there x c (x ∷ ys) (contains-here x ys)

later-ends : (c x : TaggedInterval) → (end_le c.interval.end (later c x).interval.end ≡ true) × (end_le x.interval.end (later c x).interval.end ≡ true)
later-ends c x = elim (cases_Bool (end_le x.interval.end c.interval.end)) [
  | inl low ↦ rw low (end_le-self c.interval.end, low)
  | inr high ↦ rw high (end_le-total x.interval.end c.interval.end high, end_le-self x.interval.end)
]

module _ (c x a : TaggedInterval) (ys : List TaggedInterval) where
  -- one of a shorter list is one of the longer list
  among-later : Contains (later c x ∷ ys) a → Contains (c ∷ x ∷ ys) a
  among-later h = elim (contains-cases a (later c x) ys h) [
    | inl here ↦ subst (Contains (c ∷ x ∷ ys)) here (later-among c x ys)
    | inr there ↦ contains-there a c (x ∷ ys) (contains-there a x ys there)
  ]

  abbrev EndsLast : List TaggedInterval → Type 0
  EndsLast zs = (d : TaggedInterval) → Contains zs d → end_le d.interval.end a.interval.end ≡ true

  last-later : EndsLast (later c x ∷ ys) → EndsLast (c ∷ x ∷ ys)
  last-later h d at =
      let top = h (later c x) (contains-here (later c x) ys) in
      let ends = later-ends c x in
      elim (contains-cases d c (x ∷ ys) at) [
        | inl first ↦
            subst (λ (e : TaggedInterval). end_le e.interval.end a.interval.end ≡ true) first
            (end_le-trans c.interval.end (later c x).interval.end a.interval.end ends.0 top)
        | inr there ↦ elim (contains-cases d x ys there) [
          | inl second ↦
              subst (λ (e : TaggedInterval). end_le e.interval.end a.interval.end ≡ true) second
              (end_le-trans x.interval.end (later c x).interval.end a.interval.end ends.1 top)
          | inr other ↦ h d (contains-there d (later c x) ys other)
        ]
      ]

  last-far : end_le c.interval.end x.interval.end ≡ true → EndsLast (x ∷ ys) → EndsLast (c ∷ x ∷ ys)
  last-far low h d at = elim (contains-cases d c (x ∷ ys) at) [
    | inl first ↦
        subst (λ (e : TaggedInterval). end_le e.interval.end a.interval.end ≡ true) first
        (end_le-trans c.interval.end x.interval.end a.interval.end low (h x (contains-here x ys)))
    | inr there ↦ h d there
  ]

  last-alone : EndsLast (a ∷ [])
  last-alone d at = elim (contains-cases d a [] at) [
    | inl first ↦ subst (λ (e : TaggedInterval). end_le e.interval.end a.interval.end ≡ true) first (end_le-self a.interval.end)
    | inr there ↦ absurd (contains-nil d there)
  ]

both-clash : (n o : Bool) → n ≡ false → o ≡ true → (not n && o) ≡ true
both-clash n o h k = rw (h, k) refl

more-parts : (x b : TaggedInterval) (xs ys zs : List TaggedInterval) → xs ≡ ys ++ b ∷ zs → x ∷ xs ≡ (x ∷ ys) ++ b ∷ zs
more-parts x b xs ys zs e = ap (λ (l : List TaggedInterval). x ∷ l) e

mapped-clash : (m : TaggedInterval) (o : Found) (p : TaggedInterval × TaggedInterval) → result_map_both (λ l. m ∷ l) (λ p. p) o ≡ Err p → o ≡ Err p
mapped-clash m (Err q) p e = e
mapped-clash m (Ok rest) p e = cc e

-- the sweep up to a later interval
more-far : (s : Endpoint) (c x : TaggedInterval) (ys ms : List TaggedInterval) → overlap version_order c.interval x.interval ≡ false
    → swept x.interval.start x ys ≡ Ok ms → swept s c (x ∷ ys) ≡ Ok (from_start s c ∷ ms)
unfolding swept
more-far s c x ys ms far e = rw (far, e) refl

more-near : (s : Endpoint) (c x : TaggedInterval) (ys ms : List TaggedInterval) → overlap version_order c.interval x.interval ≡ true
    → (c.is_patched && x.is_patched) ≡ true → swept s (later c x) ys ≡ Ok ms → swept s c (x ∷ ys) ≡ Ok ms
unfolding swept
more-near s c x ys ms near both e = rw (near, both) e

swept-clash : (s : Endpoint) (c : TaggedInterval) (xs : List TaggedInterval) (a b : TaggedInterval) → AreReady (spans (c ∷ xs))
    → swept s c xs ≡ Err (a, b) → IsStopped s c xs a b
unfolding swept
swept-clash s c [] a b r e = cc e
swept-clash s c (x ∷ xs) a b r e = elim (cases_Bool (overlap version_order c.interval x.interval)) [
  | inr far ↦
      let t = swept-clash x.interval.start x xs a b (ready-tail c.interval x.interval (spans xs) r) (mapped-clash (from_start s c) _ (a, b) (rw far at e)) in
      record {
        before = x ∷ t.before;
        after = t.after;
        merged = from_start s c ∷ t.merged;
        parts = more-parts x b xs t.before t.after t.parts;
        is = more-far s c x t.before t.merged far t.is;
        earlier = contains-there a c (x ∷ t.before) t.earlier;
        last = last-far c x a t.before (far-end c.interval x.interval (spans xs) r far) t.last;
        clash = t.clash;
      }
  | inl near ↦
      elim (cases_Bool (c.is_patched && x.is_patched)) [
        | inl both ↦
            let t = swept-clash s (later c x) xs a b (ready-later c x xs r) (rw (near, both) at e) in
            record {
              before = x ∷ t.before;
              after = t.after;
              merged = t.merged;
              parts = more-parts x b xs t.before t.after t.parts;
              is = more-near s c x t.before t.merged near both t.is;
              earlier = among-later c x a t.before t.earlier;
              last = last-later c x a t.before t.last;
              clash = t.clash;
            }
        | inr other ↦
            let two : Err (c, x) ≡ Err (a, b) = rw (near, other) at e in
            let meets = sym (overlap-plain c.interval x.interval r.sound.0 r.sound.1.0) ∙ near in
            let stopped : IsStopped s c (x ∷ xs) c x = record {
              before = [];
              after = xs;
              merged = from_start s c ∷ [];
              parts = refl;
              is = refl;
              earlier = contains-here c [];
              last = last-alone c x c [];
              clash = both-clash _ _ other meets;
            } in
            let pair : (c, x) ≡ (a, b) = cc two in
            subst (λ (p : TaggedInterval × TaggedInterval). IsStopped s c (x ∷ xs) p.0 p.1) pair stopped
      ]
]

-- ---- the sweep over a whole list

pub all_swept-clash : (cs : List TaggedInterval) (a b : TaggedInterval) → AllSound (spans cs) → AllAdmissible (spans cs) → StartsRise (spans cs)
    → all_swept cs ≡ Err (a, b) → IsFirstClash cs a b
all_swept-clash [] x y s a r e = cc e
all_swept-clash (c ∷ xs) x y s a r e =
    let ready : AreReady (spans (c ∷ xs)) = record { sound = s; admissible = a; rise = r } in
    let t = swept-clash c.interval.start c xs x y ready e in
    let parts = more-parts c y xs t.before t.after t.parts in
    let part = ready-part (c ∷ t.before) (y ∷ t.after) (subst (λ (l : List TaggedInterval). AreReady (spans l)) parts ready) in
    record {
      before = c ∷ t.before;
      after = t.after;
      parts = parts;
      clear = (all_swept-some (c ∷ t.before) t.merged part.sound part.admissible part.rise t.is).clear;
      earlier = t.earlier;
      last = t.last;
      clash = t.clash;
    }
