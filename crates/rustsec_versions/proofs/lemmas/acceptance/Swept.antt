-- The law of the sweep: it gives the merged intervals if no two clash.
use Rattle.std.proofs.Common.{◌≡◌, ◌&&◌, ◌||◌, Bool, true, false, cond, List, [], ◌∷◌, ◌++◌, Result, Ok, Err, refl, sym, ap, ◌∙◌, subst, inl, inr}
use Rattle.std.specs.Prelude.{not}
use Rattle.std.specs.BTreeMap.Comparable.{le_lt_trans}
use Rattle.std.specs.List.{list_any}
use Rattle.std.specs.Result.{result_map_both}
use Rattle.std.specs.Ordering.{is_le, is_lt, ordering_reverse}
use Rattle.std.specs.declared.cmp.Ordering.{Ordering}
use Rattle.std.specs.declared.cmp.Ordering.TheVariants.{Less, Equal, Greater}
use Rattle.std.proofs.lemmas.Bool.{cases_Bool}
use Rattle.semver.specs.Parse.{Parts}
use Rattle.rustsec_versions.specs.interval.StartOrder.{start_order, start_order_total}
use Rattle.rustsec_versions.specs.interval.Interval.{Endpoint, Interval, end_le, holds, overlap, reaches, start_le}
use Rattle.rustsec_versions.specs.acceptance.Merged.{AreMerged}
use Rattle.rustsec_versions.specs.order.Precedence.{precedence, version_order}
use Rattle.rustsec_versions.specs.requirement.Requirement.{is_admissible, end_cut_exists}
use Rattle.rustsec_versions.specs.acceptance.Sweep.{TaggedInterval, all_swept, are_clear, clashes, from_start, later, spans, swept, tag}
use Rattle.rustsec_versions.proofs.lemmas.ranges.AreRanges.{AreFit}
use Rattle.rustsec_versions.proofs.lemmas.interval.Bounds.{end_le-reaches, later-first, later_end, rises-start_le}
use Rattle.rustsec_versions.proofs.lemmas.ranges.Adjacent.{AllAdmissible, StartsRise, earlier-reaches}
use Rattle.rustsec_versions.proofs.lemmas.acceptance.Clashes.{AllSound, none-clash}
use Rattle.rustsec_versions.proofs.lemmas.acceptance.Contraction.{contract, extend, nothing, stretched, stretched-holds, stretched-overlap}
use Rattle.rustsec_versions.proofs.lemmas.acceptance.Neighbours.{beyond, over-before}
use Rattle.rustsec_versions.proofs.lemmas.order.PrecedenceLaws.{lt-Less}
use Rattle.rustsec_versions.proofs.lemmas.requirement.Sound.{IsSoundEnd, IsSoundInterval, admissible-end, admissible-reaches, admissible-start, and-first, and-second, overlap-plain}

-- ---- an interval that goes on to the end of another

later-sound : (d e : Endpoint) → IsSoundEnd d → IsSoundEnd e → IsSoundEnd (later_end d e)
later-sound d e p q = one (end_le e d) d e p q
  where
    one : (b : Bool) (d e : Endpoint) → IsSoundEnd d → IsSoundEnd e → IsSoundEnd (cond b d e)
    one true d e p q = p
    one false d e p q = q

later-end : (d e : Endpoint) → end_cut_exists d ≡ true → end_cut_exists e ≡ true → end_cut_exists (later_end d e) ≡ true
later-end d e p q = one (end_le e d) d e p q
  where
    one : (b : Bool) (d e : Endpoint) → end_cut_exists d ≡ true → end_cut_exists e ≡ true → end_cut_exists (cond b d e) ≡ true
    one true d e p q = p
    one false d e p q = q

all-true : (a b c : Bool) → a ≡ true → b ≡ true → c ≡ true → (a && (b && c)) ≡ true
all-true a b c p q r = rw (p, q, r) refl

stretched-sound : (i j : Interval) → IsSoundInterval i → IsSoundInterval j → IsSoundInterval (stretched i j)
stretched-sound i j p q = record { start = p.start; end = later-sound i.end j.end p.end q.end }

stretched-admissible : (i j : Interval) → is_admissible i ≡ true → is_admissible j ≡ true → is_admissible (stretched i j) ≡ true
stretched-admissible i j a b =
    all-true _ _ _ (end_le-reaches i.start i.end (later_end i.end j.end) (later-first i.end j.end) (admissible-reaches i a)) (admissible-start i a)
    (later-end i.end j.end (admissible-end i a) (admissible-end j b))

-- ---- the order of starts

reverse-le : (o : Ordering) → is_lt o ≡ false → is_le (ordering_reverse o) ≡ true
reverse-le Less h = cc h
reverse-le Equal h = refl
reverse-le Greater h = refl

starts-trans : (s t u : Endpoint) → is_lt (start_order t s) ≡ false → is_lt (start_order u t) ≡ false → is_lt (start_order u s) ≡ false
starts-trans s t u h k = elim (cases_Bool (is_lt (start_order u s))) [
  | inl low ↦
      let near : is_le (start_order t u) ≡ true = ap is_le (start_order_total.antisymm t u) ∙ reverse-le (start_order u t) k in
      let below = le_lt_trans start_order_total t u s near (lt-Less _ low) in
      let wrong : is_lt (start_order t s) ≡ true = ap is_lt below in
      cc (sym h ∙ wrong)
  | inr fine ↦ fine
]

rise-skip : (i j h : Interval) (is : List Interval) → h.start ≡ i.start → StartsRise (i ∷ j ∷ is) → StartsRise (h ∷ is)
rise-skip i j h [] e r = tt
rise-skip i j h (k ∷ is) e r = (rw e (starts-trans i.start j.start k.start r.0 r.1.0), r.1.1)

-- ---- what the sweep keeps

pub record IsSwept (cs ms : List TaggedInterval) : Type 0 where
  pub clear : are_clear cs ≡ true
  pub merged : AreMerged (spans cs) (spans ms)
  pub fit : AreFit (spans ms)
  pub rise : StartsRise (spans ms)
  pub held : (v : Parts) → list_any (λ i. holds i v) (spans ms) ≡ list_any (λ i. holds i v) (spans cs)

-- the first of the merged intervals begins there
FirstIs : Endpoint → List TaggedInterval → Type 0
FirstIs s [] = ⊥
FirstIs s (m ∷ ms) = m.interval.start ≡ s

-- what is known of the intervals of a sweep
pub record AreReady (is : List Interval) : Type 0 where
  pub sound : AllSound is
  pub admissible : AllAdmissible is
  pub rise : StartsRise is

pub ready-tail : (i j : Interval) (is : List Interval) → AreReady (i ∷ j ∷ is) → AreReady (j ∷ is)
ready-tail i j is r = record { sound = r.sound.1; admissible = r.admissible.1; rise = r.rise.1 }

ready-stretched : (i j : Interval) (is : List Interval) → AreReady (i ∷ j ∷ is) → AreReady (stretched i j ∷ is)
ready-stretched i j is r = record {
  sound = (stretched-sound i j r.sound.0 r.sound.1.0, r.sound.1.1);
  admissible = (stretched-admissible i j r.admissible.0 r.admissible.1.0, r.admissible.1.1);
  rise = rise-skip i j (stretched i j) is refl r.rise;
}

ready-skip : (i j : Interval) (is : List Interval) → AreReady (i ∷ j ∷ is) → AreReady (i ∷ is)
ready-skip i j is r = record {
  sound = (r.sound.0, r.sound.1.1);
  admissible = (r.admissible.0, r.admissible.1.1);
  rise = rise-skip i j i is refl r.rise;
}

-- of the beginning of a list
pub ready-part : (xs ys : List TaggedInterval) → AreReady (spans (xs ++ ys)) → AreReady (spans xs)
ready-part xs ys r = record { sound = sound xs r.sound; admissible = admissible xs r.admissible; rise = rise xs r.rise }
  where
    sound : (xs : List TaggedInterval) → AllSound (spans (xs ++ ys)) → AllSound (spans xs)
    sound [] a = tt
    sound (x ∷ xs) a = (a.0, sound xs a.1)

    admissible : (xs : List TaggedInterval) → AllAdmissible (spans (xs ++ ys)) → AllAdmissible (spans xs)
    admissible [] a = tt
    admissible (x ∷ xs) a = (a.0, admissible xs a.1)

    rise : (xs : List TaggedInterval) → StartsRise (spans (xs ++ ys)) → StartsRise (spans xs)
    rise [] r = tt
    rise (x ∷ []) r = tt
    rise (x ∷ y ∷ xs) r = (r.0, rise (y ∷ xs) r.1)

-- ---- the later one of two intervals

abbrev stretched_tag : TaggedInterval → TaggedInterval → TaggedInterval
stretched_tag c x = record { interval = stretched c.interval x.interval; is_patched = c.is_patched }

-- the merged interval goes on to the later end
later-stretched : (s : Endpoint) (c x : TaggedInterval) → (c.is_patched && x.is_patched) ≡ true → from_start s (later c x) ≡ stretched_tag (from_start s c) x
later-stretched s c x both = one (end_le x.interval.end c.interval.end)
  where
    one : (b : Bool) → from_start s (cond b c x) ≡ record { interval = record { start = s; end = cond b c.interval.end x.interval.end }; is_patched = c.is_patched }
    one true = refl
    one false = ap (λ (p : Bool). tag p (record { start = s; end = x.interval.end })) (and-second _ _ both ∙ sym (and-first _ _ both))

pub ready-later : (c x : TaggedInterval) (xs : List TaggedInterval) → AreReady (spans (c ∷ x ∷ xs)) → AreReady (spans (later c x ∷ xs))
ready-later c x xs r = one (end_le x.interval.end c.interval.end)
  where
    one : (b : Bool) → AreReady (spans (cond b c x ∷ xs))
    one true = ready-skip c.interval x.interval (spans xs) r
    one false = ready-tail c.interval x.interval (spans xs) r

-- ---- an interval that does not overlap the next one

pub far-short : (i j : Interval) (is : List Interval) → AreReady (i ∷ j ∷ is) → overlap version_order i j ≡ false → reaches precedence j.start i.end ≡ false
far-short i j is r far =
    over-before i j (r.sound.0, (r.sound.1.0, tt)) (r.admissible.1.0, tt) (r.rise.0, tt) (sym (overlap-plain i j r.sound.0 r.sound.1.0) ∙ far)

far-none : (i j : Interval) (is : List Interval) → AreReady (i ∷ j ∷ is) → overlap version_order i j ≡ false → list_any (overlap precedence i) (j ∷ is) ≡ false
far-none i j is r far = beyond i j is r.sound.1 r.rise.1 (far-short i j is r far)

far-merged : (i j : Interval) (is : List Interval) (ms : List TaggedInterval) → AreReady (i ∷ j ∷ is) → overlap version_order i j ≡ false → FirstIs j.start ms
    → AreFit (spans ms) → StartsRise (spans ms) → list_any (overlap precedence i) (spans ms) ≡ false
unfolding FirstIs
far-merged i j is [] r far first fit rise = refl
far-merged i j is (m ∷ ms) r far first fit rise = beyond i m.interval (spans ms) fit.sound rise (rw first (far-short i j is r far))

rise-cons : (i j : Interval) (is : List Interval) (ms : List TaggedInterval) → AreReady (i ∷ j ∷ is) → FirstIs j.start ms → StartsRise (spans ms) → StartsRise (i ∷ spans ms)
unfolding FirstIs
rise-cons i j is [] r first rise = tt
rise-cons i j is (m ∷ ms) r first rise = (rw first r.rise.0, rise)

not-and : (a b : Bool) → a ≡ false → b ≡ true → (not a && b) ≡ true
not-and a b h k = rw (h, k) refl

far-step : (c x : TaggedInterval) (xs ms : List TaggedInterval) → AreReady (spans (c ∷ x ∷ xs)) → overlap version_order c.interval x.interval ≡ false
    → FirstIs x.interval.start ms → IsSwept (x ∷ xs) ms → IsSwept (c ∷ x ∷ xs) (c ∷ ms)
far-step c x xs ms r far first s =
    let none = far-none c.interval x.interval (spans xs) r far in
    let over = far-merged c.interval x.interval (spans xs) ms r far first s.fit s.rise in
    record {
      clear = not-and _ _ (none-clash c (x ∷ xs) none) s.clear;
      merged = extend c.interval (spans (x ∷ xs)) r.admissible none (spans ms) over s.merged;
      fit = record { sound = (r.sound.0, s.fit.sound); admissible = (r.admissible.0, s.fit.admissible); apart = not-and _ _ over s.fit.apart };
      rise = rise-cons c.interval x.interval (spans xs) ms r first s.rise;
      held = λ v. ap (λ (b : Bool). holds c.interval v || b) (s.held v);
    }

-- ---- patched intervals that overlap

same-tests : (a b p q r : Bool) → a ≡ (b || p) → q ≡ true → r ≡ true → (y : Bool) → (not (q && y) && a) ≡ ((not (q && y) && b) || (not (r && y) && p))
same-tests a b p q r h k l true = rw (k, l) refl
same-tests a b p q r h k l false = rw (k, l) h

or-swap : (a b c d : Bool) → ((a || b) || (c || d)) ≡ ((a || c) || (b || d))
or-swap true b c d = refl
or-swap false true true d = refl
or-swap false true false d = refl
or-swap false false c d = refl

module _ (c x : TaggedInterval) (patched : c.is_patched ≡ true) (next : x.is_patched ≡ true) (first : start_le c.interval.start x.interval.start ≡ true)
    (near : overlap precedence c.interval x.interval ≡ true) where
  near-clashes : (ys : List TaggedInterval) → AllAdmissible (spans ys)
      → list_any (clashes (stretched_tag c x)) ys ≡ (list_any (clashes c) ys || list_any (clashes x) ys)
  near-clashes [] a = refl
  near-clashes (y ∷ ys) a =
      let one = stretched-overlap c.interval x.interval first near y.interval (admissible-reaches y.interval a.0) in
      rw (same-tests (overlap precedence (stretched c.interval x.interval) y.interval) (overlap precedence c.interval y.interval) (overlap precedence x.interval y.interval) c.is_patched x.is_patched one patched next y.is_patched, near-clashes ys a.1)
      (or-swap (clashes c y) (clashes x y) (list_any (clashes c) ys) (list_any (clashes x) ys))

both-true : (a b : Bool) → a ≡ true → b ≡ true → (not (a && b)) ≡ false
both-true a b h k = rw (h, k) refl

one-clear : (n o a b r h : Bool) → n ≡ false → h ≡ (a || b) → (not ((n && o) || a) && (not b && r)) ≡ (not h && r)
one-clear n o true b r h p q = rw (p, q) refl
one-clear n o false b r h p q = rw (p, q) refl

or-assoc : (a b c : Bool) → ((a || b) || c) ≡ (a || (b || c))
or-assoc true b c = refl
or-assoc false b c = refl

near-first : (i j : Interval) (is : List Interval) → AreReady (i ∷ j ∷ is) → start_le i.start j.start ≡ true
near-first i j is r = rises-start_le i.start j.start r.sound.0.start r.sound.1.0.start r.rise.0

near-clear : (c x : TaggedInterval) (xs : List TaggedInterval) → AreReady (spans (c ∷ x ∷ xs)) → overlap precedence c.interval x.interval ≡ true
    → (c.is_patched && x.is_patched) ≡ true → are_clear (c ∷ x ∷ xs) ≡ are_clear (stretched_tag c x ∷ xs)
near-clear c x xs r near both =
    let patched = and-first _ _ both in
    let next = and-second _ _ both in
    one-clear (not (c.is_patched && x.is_patched)) (overlap precedence c.interval x.interval) (list_any (clashes c) xs) (list_any (clashes x) xs) (are_clear xs)
    (list_any (clashes (stretched_tag c x)) xs) (both-true _ _ patched next)
    (near-clashes c x patched next (near-first c.interval x.interval (spans xs) r) near xs r.admissible.1.1)

near-step : (c x : TaggedInterval) (xs ms : List TaggedInterval) → AreReady (spans (c ∷ x ∷ xs)) → overlap precedence c.interval x.interval ≡ true
    → (c.is_patched && x.is_patched) ≡ true → IsSwept (stretched_tag c x ∷ xs) ms → IsSwept (c ∷ x ∷ xs) ms
near-step c x xs ms r near both s =
    let first = near-first c.interval x.interval (spans xs) r in
    record {
      clear = near-clear c x xs r near both ∙ s.clear;
      merged = contract c.interval x.interval (spans xs) r.admissible first near (spans ms) s.merged;
      fit = s.fit;
      rise = s.rise;
      held = λ v.
          s.held v ∙ ap (λ (b : Bool). b || list_any (λ i. holds i v) (spans xs)) (stretched-holds c.interval x.interval first near v)
          ∙ or-assoc (holds c.interval v) (holds x.interval v) (list_any (λ i. holds i v) (spans xs));
    }

-- ---- the sweep

abbrev pub Found : Type 0
Found = Result (List TaggedInterval) (TaggedInterval × TaggedInterval)

mapped : (m : TaggedInterval) (o : Found) (ms : List TaggedInterval) → result_map_both (λ l. m ∷ l) (λ p. p) o ≡ Ok ms
    → (rest : List TaggedInterval) × ((o ≡ Ok rest) × (m ∷ rest ≡ ms))
mapped m (Err p) ms e = cc e
mapped m (Ok rest) ms e = (rest, (refl, cc e))

-- the one that ends last starts before the next one or with it, and so does the merged interval
near-start : (i j : Interval) (is : List Interval) → AreReady (i ∷ j ∷ is) → overlap version_order i j ≡ reaches precedence j.start i.end
near-start i j is r =
    let reached = earlier-reaches i.start j.start j.end r.sound.0.start r.sound.1.0.start r.rise.0 (admissible-reaches j r.admissible.1.0) in
    overlap-plain i j r.sound.0 r.sound.1.0 ∙ rw reached refl

merged-overlap : (s : Endpoint) (c x : TaggedInterval) (xs : List TaggedInterval) → AreReady (spans (c ∷ x ∷ xs)) → AreReady (spans (from_start s c ∷ x ∷ xs))
    → overlap version_order (from_start s c).interval x.interval ≡ overlap version_order c.interval x.interval
merged-overlap s c x xs r q = near-start (from_start s c).interval x.interval (spans xs) q ∙ sym (near-start c.interval x.interval (spans xs) r)

alone : (c : TaggedInterval) → AreReady (spans (c ∷ [])) → IsSwept (c ∷ []) (c ∷ [])
alone c r = record {
  clear = refl;
  merged = extend c.interval [] r.admissible refl [] refl nothing;
  fit = record { sound = r.sound; admissible = r.admissible; apart = refl };
  rise = tt;
  held = λ v. refl;
}

swept-some : (s : Endpoint) (c : TaggedInterval) (xs ms : List TaggedInterval) → AreReady (spans (c ∷ xs)) → AreReady (spans (from_start s c ∷ xs))
    → swept s c xs ≡ Ok ms → FirstIs s ms × IsSwept (from_start s c ∷ xs) ms
unfolding swept FirstIs
swept-some s c [] ms r q e =
    let is : from_start s c ∷ [] ≡ ms = cc e in
    subst (λ (l : List TaggedInterval). FirstIs s l × IsSwept (from_start s c ∷ []) l) is (refl, alone (from_start s c) q)
swept-some s c (x ∷ xs) ms r q e =
    let m = from_start s c in
    let same = merged-overlap s c x xs r q in
    elim (cases_Bool (overlap version_order c.interval x.interval)) [
      | inr far ↦
          let t = mapped m (swept x.interval.start x xs) ms (rw far at e) in
          let tail = ready-tail c.interval x.interval (spans xs) r in
          let (first, w) = swept-some x.interval.start x xs t.0 tail tail t.1.0 in
          subst (λ (l : List TaggedInterval). FirstIs s l × IsSwept (m ∷ x ∷ xs) l) t.1.1 (refl, far-step m x xs t.0 q (same ∙ far) first w)
      | inl near ↦
          let meets = sym (overlap-plain m.interval x.interval q.sound.0 q.sound.1.0) ∙ same ∙ near in
          elim (cases_Bool (c.is_patched && x.is_patched)) [
            | inl both ↦
                let grown = later-stretched s c x both in
                let stretched = ready-stretched m.interval x.interval (spans xs) q in
                let ready = subst (λ (t : TaggedInterval). AreReady (spans (t ∷ xs))) (sym grown) stretched in
                let (first, w) = swept-some s (later c x) xs ms (ready-later c x xs r) ready (rw (near, both) at e) in
                (first, near-step m x xs ms q meets both (subst (λ (t : TaggedInterval). IsSwept (t ∷ xs) ms) grown w))
            | inr other ↦ let wrong = rw (near, other) at e in cc wrong
          ]
    ]

-- ---- the sweep over a whole list

pub all_swept-some : (cs ms : List TaggedInterval) → AllSound (spans cs) → AllAdmissible (spans cs) → StartsRise (spans cs) → all_swept cs ≡ Ok ms → IsSwept cs ms
all_swept-some [] ms s a r e =
    let is : [] ≡ ms = cc e in
    subst (λ (l : List TaggedInterval). IsSwept [] l) is
    (record { clear = refl; merged = nothing; fit = record { sound = tt; admissible = tt; apart = refl }; rise = tt; held = λ v. refl })
all_swept-some (c ∷ xs) ms s a r e =
    let ready : AreReady (spans (c ∷ xs)) = record { sound = s; admissible = a; rise = r } in
    (swept-some c.interval.start c xs ms ready ready e).1
