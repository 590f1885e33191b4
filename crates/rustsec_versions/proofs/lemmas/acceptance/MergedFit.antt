-- The merged intervals of a list are fit to have ranges; what overlaps no other stays alone.
use Rattle.std.proofs.Common.{◌≡◌, true, List, [], ◌∷◌, refl, sym, ap, subst, inl, inr}
use Rattle.std.specs.Prelude.{Contains, not}
use Rattle.std.specs.List.{list_any}
use Rattle.rustsec_versions.specs.interval.Apart.{are_apart}
use Rattle.rustsec_versions.specs.interval.Interval.{Endpoint, Interval, exclusive, inclusive, overlap, reaches, unbounded}
use Rattle.rustsec_versions.specs.acceptance.Merged.{AreMerged, IsJoined, IsMergedOf, itself, onward}
use Rattle.rustsec_versions.specs.order.Precedence.{precedence}
use Rattle.rustsec_versions.specs.ranges.Ranges.{whole}
use Rattle.rustsec_versions.specs.requirement.Requirement.{is_admissible, end_cut_exists, start_cut_exists}
use Rattle.rustsec_versions.proofs.lemmas.ranges.AreRanges.{AreFit}
use Rattle.rustsec_versions.proofs.lemmas.interval.Bounds.{end_le-reaches}
use Rattle.rustsec_versions.proofs.lemmas.ranges.Adjacent.{AllAdmissible}
use Rattle.rustsec_versions.proofs.lemmas.acceptance.Clashes.{AllSound}
use Rattle.rustsec_versions.proofs.lemmas.lists.Contained.{any-contained, contains-cases, contains-here, contains-nil, contains-there}
use Rattle.rustsec_versions.proofs.lemmas.requirement.Sound.{IsSoundEnd, IsSoundInterval, admissible-end, admissible-reaches, admissible-start, and-first}

-- ---- bounds

reaches-unbounded : (s : Endpoint) → reaches precedence s unbounded ≡ true
reaches-unbounded unbounded = refl
reaches-unbounded (exclusive s) = refl
reaches-unbounded (inclusive s) = refl

-- ---- intervals of a list

-- an interval of sound ones is sound
pub sound-each : (is : List Interval) (i : Interval) → AllSound is → Contains is i → IsSoundInterval i
sound-each [] i a c = absurd (contains-nil i c)
sound-each (j ∷ is) i a c = elim (contains-cases i j is c) [
  | inl e ↦ subst IsSoundInterval e a.0
  | inr later ↦ sound-each is i a.1 later
]

sound-all : (is : List Interval) → ((i : Interval) → Contains is i → IsSoundInterval i) → AllSound is
sound-all [] f = tt
sound-all (i ∷ is) f = (f i (contains-here i is), sound-all is (λ j c. f j (contains-there j i is c)))

admissible-each : (is : List Interval) (i : Interval) → AllAdmissible is → Contains is i → is_admissible i ≡ true
admissible-each [] i a c = absurd (contains-nil i c)
admissible-each (j ∷ is) i a c = elim (contains-cases i j is c) [
  | inl e ↦ subst (λ (k : Interval). is_admissible k ≡ true) e a.0
  | inr later ↦ admissible-each is i a.1 later
]

admissible-all : (is : List Interval) → ((i : Interval) → Contains is i → is_admissible i ≡ true) → AllAdmissible is
admissible-all [] f = tt
admissible-all (i ∷ is) f = (f i (contains-here i is), admissible-all is (λ j c. f j (contains-there j i is c)))

-- intervals with the same bounds are equal
pub interval-same : (i j : Interval) → i.start ≡ j.start → i.end ≡ j.end → i ≡ j
interval-same i j h k = λ n. record { start = h n; end = k n }

-- ---- merged intervals

-- a merged interval of sound ones is sound
pub merged-sound : (is : List Interval) (i m : Interval) → AllSound is → IsMergedOf is i m → IsSoundInterval m
merged-sound is i m a w =
    let s = w.start in
    let e = w.end in
    record {
      start = subst IsSoundEnd s.1.1.1 ((sound-each is s.0 a s.1.0).start);
      end = subst IsSoundEnd e.1.1.1 ((sound-each is e.0 a e.1.0).end);
    }

-- the start of a merged interval reaches its end
merged-reaches : (is : List Interval) (i m : Interval) → AllAdmissible is → IsMergedOf is i m → reaches precedence m.start m.end ≡ true
merged-reaches is i m a w =
    let s = w.start in
    let near = end_le-reaches s.0.start s.0.end m.end (w.greatest s.0 s.1.0 s.1.1.0) (admissible-reaches s.0 (admissible-each is s.0 a s.1.0)) in
    subst (λ (t : Endpoint). reaches precedence t m.end ≡ true) s.1.1.1 near

merged-admissible : (is : List Interval) (i m : Interval) → AllAdmissible is → IsMergedOf is i m → is_admissible m ≡ true
merged-admissible is i m a w =
    let s = w.start in
    let e = w.end in
    let near = merged-reaches is i m a w in
    let first : start_cut_exists m.start ≡ true = subst (λ (t : Endpoint). start_cut_exists t ≡ true) s.1.1.1 (admissible-start s.0 (admissible-each is s.0 a s.1.0)) in
    let last : end_cut_exists m.end ≡ true = subst (λ (t : Endpoint). end_cut_exists t ≡ true) e.1.1.1 (admissible-end e.0 (admissible-each is e.0 a e.1.0)) in
    rw (near, first, last) refl

-- the merged intervals of sound and admissible ones are sound, admissible and apart
pub merged-fit : (is ms : List Interval) → AllSound is → AllAdmissible is → AreMerged is ms → AreFit ms
merged-fit is ms a b w =
    record {
      sound = sound-all ms (λ m c. let o = w.only m c in merged-sound is o.0 m a o.1.1);
      admissible = admissible-all ms (λ m c. let o = w.only m c in merged-admissible is o.0 m b o.1.1);
      apart = w.apart;
    }

-- ---- intervals that overlap no other

-- no chain joins an interval that overlaps no other one with another one
pub joined-alone : {is : List Interval} {i k : Interval} (a : Interval) → ((j : Interval) → Contains is j → overlap precedence a j ≡ true → j ≡ a)
    → IsJoined is i k → i ≡ a → k ≡ a
joined-alone a h (itself i) e = e
joined-alone a h (onward i j c o rest) e = joined-alone a h rest (h j c (subst (λ (x : Interval). overlap precedence x j ≡ true) e o))

-- the interval without bounds overlaps each one
whole-overlaps : (i : Interval) → overlap precedence whole i ≡ true
whole-overlaps i = rw (reaches-unbounded i.start) refl

overlaps-whole : (i : Interval) → overlap precedence i whole ≡ true
overlaps-whole i = rw (reaches-unbounded i.start) refl

-- if the interval without bounds is among intervals that do not overlap, it is the only one
pub merged-whole : (ms : List Interval) → are_apart precedence ms ≡ true → AllAdmissible ms → Contains ms whole → ms ≡ whole ∷ []
merged-whole [] h a c = absurd (contains-nil whole c)
merged-whole (m ∷ []) h a c = elim (contains-cases whole m [] c) [
  | inl e ↦ ap (λ (x : Interval). x ∷ []) e
  | inr later ↦ absurd (contains-nil whole later)
]
merged-whole (m ∷ n ∷ ms) h a c =
    let far : not (list_any (overlap precedence m) (n ∷ ms)) ≡ true = and-first _ _ h in
    elim (contains-cases whole m (n ∷ ms) c) [
      | inl e ↦
          let meets = subst (λ (x : Interval). overlap precedence x n ≡ true) (sym e) (whole-overlaps n) in
          let hit = any-contained (overlap precedence m) (n ∷ ms) n (contains-here n ms) meets in
          cc (rw hit at far)
      | inr later ↦ let hit = any-contained (overlap precedence m) (n ∷ ms) whole later (overlaps-whole m) in cc (rw hit at far)
    ]
