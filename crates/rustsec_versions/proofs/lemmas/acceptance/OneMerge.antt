-- Lists with the same intervals have the same merged intervals, and the same ranges.
use Rattle.std.proofs.Common.{◌≡◌, true, List, [], ◌∷◌, refl, sym, subst, inl, inr, IsPermutation}
use Rattle.std.specs.Prelude.{Contains, not}
use Rattle.std.specs.List.{list_any}
use Rattle.std.proofs.lemmas.List.Sorted.{Contains-permutation, IsPermutation-cons, IsPermutation-refl, IsPermutation-sym, IsPermutation-trans}
use Rattle.rustsec_versions.specs.interval.Apart.{are_apart}
use Rattle.rustsec_versions.specs.interval.Interval.{Endpoint, Interval, end_le, overlap, start_le}
use Rattle.rustsec_versions.specs.acceptance.Merged.{AreMerged, IsJoined, IsMergedOf, itself, onward}
use Rattle.rustsec_versions.specs.order.Precedence.{precedence}
use Rattle.rustsec_versions.specs.ranges.Ranges.{AreRanges, Range}
use Rattle.rustsec_versions.proofs.lemmas.ranges.AreRanges.{admissible_shuffled, sound_shuffled}
use Rattle.rustsec_versions.proofs.lemmas.interval.Bounds.{start_le-same, end_le-same}
use Rattle.rustsec_versions.proofs.lemmas.ranges.Adjacent.{AllAdmissible}
use Rattle.rustsec_versions.proofs.lemmas.acceptance.Clashes.{AllSound}
use Rattle.rustsec_versions.proofs.lemmas.lists.Contained.{any-contained, contains-cases, contains-here, contains-nil, contains-there}
use Rattle.rustsec_versions.proofs.lemmas.acceptance.MergedFit.{interval-same, merged-fit, merged-sound}
use Rattle.rustsec_versions.proofs.lemmas.lists.Shuffled.{Shuffled, both, keep, permuted, same, shuffled, turn}
use Rattle.rustsec_versions.proofs.lemmas.requirement.Sound.{admissible-reaches, and-first, and-second}
use Rattle.rustsec_versions.proofs.lemmas.ranges.Unique.{AreRanges-unique}

-- ---- lists with the same elements

module _ {X : Type 0} where
  -- a list without repeats
  IsOnce : List X → Type 0
  IsOnce [] = Unit {0}
  IsOnce (x ∷ xs) = (Contains xs x → ⊥) × IsOnce xs

  once_shuffled : {xs ys : List X} → Shuffled xs ys → IsOnce xs → IsOnce ys
  unfolding IsOnce
  once_shuffled (same xs) o = o
  once_shuffled (keep x {xs} {ys} s) o =
      (λ c. o.0 (Contains-permutation ys xs x (IsPermutation-sym xs ys (permuted s)) c), once_shuffled s o.1)
  once_shuffled (turn x y xs) o = (
    λ c. elim (contains-cases y x xs c) [
      | inl e ↦ o.0 (subst (λ (z : X). Contains (y ∷ xs) z) (sym e) (contains-here y xs))
      | inr later ↦ o.1.0 later
    ],
    (λ c. o.0 (contains-there x y xs c), o.1.1),
  )
  once_shuffled (both s t) o = once_shuffled t (once_shuffled s o)

  -- an element is taken to the front
  fronted : (x : X) (ys : List X) → Contains ys x → (rest : List X) × Shuffled ys (x ∷ rest)
  fronted x [] c = absurd (contains-nil x c)
  fronted x (y ∷ ys) c = elim (contains-cases x y ys c) [
    | inl e ↦ (ys, subst (λ (z : X). Shuffled (y ∷ ys) (z ∷ ys)) e (same (y ∷ ys)))
    | inr later ↦ let f = fronted x ys later in (y ∷ f.0, both (keep y f.1) (turn y x f.0))
  ]

  -- of two lists without repeats with the same elements, one is a permutation of the other
  elements-permuted : (xs ys : List X) → IsOnce xs → IsOnce ys → ((x : X) → Contains xs x → Contains ys x)
      → ((x : X) → Contains ys x → Contains xs x) → IsPermutation xs ys
  unfolding IsOnce
  elements-permuted [] [] o u there back = IsPermutation-refl []
  elements-permuted [] (y ∷ ys) o u there back = absurd (contains-nil y (back y (contains-here y ys)))
  elements-permuted (x ∷ xs) ys o u there back =
      let (rest, s) = fronted x ys (there x (contains-here x xs)) in
      let p = permuted s in
      let q = IsPermutation-sym ys (x ∷ rest) p in
      let v = once_shuffled s u in
      let onto : (z : X) → Contains xs z → Contains rest z = λ z c. elim (contains-cases z x rest (Contains-permutation ys (x ∷ rest) z p (there z (contains-there z x xs c)))) [
        | inl e ↦ absurd (o.0 (subst (Contains xs) (sym e) c))
        | inr later ↦ later
      ] in
      let from : (z : X) → Contains rest z → Contains xs z = λ z c. elim (contains-cases z x xs (back z (Contains-permutation (x ∷ rest) ys z q (contains-there z x rest c)))) [
        | inl e ↦ absurd (v.0 (subst (Contains rest) (sym e) c))
        | inr later ↦ later
      ] in
      IsPermutation-trans _ _ _ (IsPermutation-cons x xs rest (elements-permuted xs rest o.1 v.1 onto from)) q

-- ---- one merged interval

joined-more : {is js : List Interval} {i k : Interval} → ((j : Interval) → Contains is j → Contains js j) → IsJoined is i k → IsJoined js i k
joined-more f (itself i) = itself i
joined-more f (onward i j c o rest) = onward i j (f j c) o (joined-more f rest)

-- lists with the same elements merge alike
merged-of : (is js : List Interval) (i m : Interval) → ((j : Interval) → Contains is j → Contains js j) → ((j : Interval) → Contains js j → Contains is j)
    → IsMergedOf is i m → IsMergedOf js i m
merged-of is js i m f g w =
    let s = w.start in
    let e = w.end in
    record {
      start = (s.0, (f s.0 s.1.0, (joined-more f s.1.1.0, s.1.1.1)));
      least = λ j c d. w.least j (g j c) (joined-more g d);
      end = (e.0, (f e.0 e.1.0, (joined-more f e.1.1.0, e.1.1.1)));
      greatest = λ j c d. w.greatest j (g j c) (joined-more g d);
    }

begins-merged : (is : List Interval) (i m n : Interval) → IsMergedOf is i m → IsMergedOf is i n → start_le n.start m.start ≡ true
begins-merged is i m n v w =
    let s = v.start in
    subst (λ (t : Endpoint). start_le n.start t ≡ true) s.1.1.1 (w.least s.0 s.1.0 s.1.1.0)

ends-merged : (is : List Interval) (i m n : Interval) → IsMergedOf is i m → IsMergedOf is i n → end_le m.end n.end ≡ true
ends-merged is i m n v w =
    let e = v.end in
    subst (λ (t : Endpoint). end_le t n.end ≡ true) e.1.1.1 (w.greatest e.0 e.1.0 e.1.1.0)

merged-same : (is : List Interval) (i m n : Interval) → AllSound is → IsMergedOf is i m → IsMergedOf is i n → m ≡ n
merged-same is i m n a v w =
    let p = merged-sound is i m a v in
    let q = merged-sound is i n a w in
    interval-same m n (start_le-same m.start n.start p.start q.start (begins-merged is i n m w v) (begins-merged is i m n v w))
    (end_le-same m.end n.end p.end q.end (ends-merged is i m n v w) (ends-merged is i n m w v))

-- ---- all merged intervals

apart-once : (ms : List Interval) → AllAdmissible ms → are_apart precedence ms ≡ true → IsOnce ms
unfolding IsOnce
apart-once [] a h = tt
apart-once (m ∷ ms) a h =
    let near = admissible-reaches m a.0 in
    let meets : overlap precedence m m ≡ true = rw near refl in
    let far : not (list_any (overlap precedence m) ms) ≡ true = and-first _ _ h in (
      λ c. let hit = any-contained (overlap precedence m) ms m c meets in cc (rw hit at far),
      apart-once ms a.1 (and-second _ _ h),
    )

-- a merged interval of one list is one of the other
merged-found : (is js ms ns : List Interval) (m : Interval) → AllSound js → ((j : Interval) → Contains is j → Contains js j)
    → ((j : Interval) → Contains js j → Contains is j) → AreMerged is ms → AreMerged js ns → Contains ms m → Contains ns m
merged-found is js ms ns m a f g v w c =
    let o = v.only m c in
    let n = w.each o.0 (f o.0 o.1.0) in
    let e = merged-same js o.0 n.0 m a n.1.1 (merged-of is js o.0 m f g o.1.1) in
    subst (Contains ns) e n.1.0

-- the merged intervals of a list are those of its intervals in another order
pub merged-permutation : (is js ms : List Interval) → IsPermutation is js → AreMerged is ms → AreMerged js ms
merged-permutation is js ms p v =
    let there : (j : Interval) → Contains is j → Contains js j = λ j. Contains-permutation is js j p in
    let back : (j : Interval) → Contains js j → Contains is j = λ j. Contains-permutation js is j (IsPermutation-sym is js p) in
    record {
      each = λ i c. let m = v.each i (back i c) in (m.0, (m.1.0, merged-of is js i m.0 there back m.1.1));
      only = λ m c. let i = v.only m c in (i.0, (there i.0 i.1.0, merged-of is js i.0 m there back i.1.1));
      apart = v.apart;
    }

-- the merged intervals do not depend on the order of the intervals
pub merged-one : (is js ms ns : List Interval) → AllSound is → AllAdmissible is → IsPermutation is js → AreMerged is ms → AreMerged js ns → IsPermutation ms ns
merged-one is js ms ns a b p v w =
    let s = shuffled is js p in
    let c = sound_shuffled s a in
    let q = IsPermutation-sym is js p in
    let there : (j : Interval) → Contains is j → Contains js j = λ j. Contains-permutation is js j p in
    let back : (j : Interval) → Contains js j → Contains is j = λ j. Contains-permutation js is j q in
    let m = merged-fit is ms a b v in
    let n = merged-fit js ns c (admissible_shuffled s b) w in
    elements-permuted ms ns (apart-once ms m.admissible m.apart) (apart-once ns n.admissible n.apart)
    (λ x h. merged-found is js ms ns x c there back v w h) (λ x h. merged-found js is ns ms x a back there w v h)

-- nor do their ranges
pub merged-ranges-one : (is js ms ns : List Interval) (rs us : List Range) → AllSound is → AllAdmissible is → IsPermutation is js → AreMerged is ms
    → AreMerged js ns → AreRanges ms rs → AreRanges ns us → us ≡ rs
merged-ranges-one is js ms ns rs us a b p v w r u =
    AreRanges-unique ms ns rs us (merged-one is js ms ns a b p v w) ((merged-fit is ms a b v).sound) r u
