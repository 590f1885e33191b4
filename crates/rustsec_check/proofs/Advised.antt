-- Updates by what the findings about one package share.
use Rattle.std.proofs.Common.{◌≡◌, ◌⊎◌, ◌==◌, ◌||◌, Bool, true, false, List, [], ◌∷◌, Option, Some, None, arith, inl, inr, length, not, refl, subst}
use Rattle.std.specs.List.{list_any}
use Rattle.std.proofs.lemmas.Bool.{cases_Bool, eqb-true, not-true, or_cases, or_from, or_right}
use Rattle.std.specs.Cmp.{first_so, second_so}
use Rattle.semver.specs.Parse.{Parts}
use Rattle.rustsec_versions.specs.Equality.{lists_eq}
use Rattle.rustsec_versions.specs.EqualityLaws.{lists_decides}
use Rattle.rustsec_versions.specs.acceptance.Lists.{Lists, affected}
use Rattle.rustsec_versions.specs.order.Precedence.{IsVersion, is_at_most}
use Rattle.rustsec_lock.specs.Package.{PackageValue}
use Rattle.rustsec_texts.specs.Ids.{IdValue}
use Rattle.rustsec_advisory.specs.declared.advisory.Advisory.{Advisory}
use Rattle.rustsec_check.specs.LeastFree.{IsLeastFree, is_affected}
use Rattle.rustsec_check.specs.Updates.{AdviceValue, AreIdsOf, IsAdvice, IsMover, IsUpdateFor, Moves, affects, in_force, is_same_with, lists_of}
use Rattle.rustsec_check.proofs.Movers.{ids-alike, none-less}

-- ---- of two truths

right-false : (a b : Bool) → (a || b) ≡ false → b ≡ false
right-false true b h = cc h
right-false false b h = h

left-true : (a b : Bool) → b ≡ false → (a || b) ≡ true → a ≡ true
left-true true b h k = refl
left-true false b h k = cc k

some-same : {A : Type 0} (a b : A) → Some a ≡ Some b → a ≡ b
some-same a b h = cc h

-- ---- the least free version of others is that of an advisory and of these, unless the advisory leaves it affected

module _ (a : Advisory) (others : List Advisory) (v : Parts) where
  free-others : (u : Parts) → is_affected (lists_of (a ∷ others)) u ≡ false → is_affected (lists_of others) u ≡ false
  free-others u h = right-false (affected a.versions u) (is_affected (lists_of others) u) h

  plain-case : (w : Parts) (b : Bool) → is_affected (lists_of others) v ≡ b → affected a.versions w ≡ false → IsLeastFree (lists_of others) v (Some w)
      → is_affected (lists_of (a ∷ others)) v ≡ true → w.4 ≡ []
  plain-case w true e free is bad = is.plain w refl e
  plain-case w false e free is bad =
      let same : w ≡ v = some-same w v (is.itself e) in
      let held : affected a.versions v ≡ true = left-true (affected a.versions v) (is_affected (lists_of others) v) e bad in
      let unheld : affected a.versions v ≡ false = subst (λ (x : Parts). affected a.versions x ≡ false) same free in
      cc (held, unheld)

  free-with : (found : Option Parts) → affects found a ≡ false → IsLeastFree (lists_of others) v found → IsLeastFree (lists_of (a ∷ others)) v found
  free-with None free is = record {
    some = λ w e. cc e;
    least = λ w e u valid up h. cc e;
    none = λ e u valid up. or_right (affected a.versions u) (is_affected (lists_of others) u) (is.none refl u valid up);
    itself = λ h. is.itself (free-others v h);
    plain = λ w e h. cc e;
  }
  free-with (Some w) free is = record {
    some = λ x e. subst (λ (x : Parts). IsVersion x × (is_at_most v x ≡ true) × (is_affected (lists_of (a ∷ others)) x ≡ false)) (some-same w x e)
        ((is.some w refl).0, (is.some w refl).1, or_from (affected a.versions w) (is_affected (lists_of others) w) free (is.some w refl).2);
    least = λ x e u valid up h. subst (λ (x : Parts). is_at_most x u ≡ true) (some-same w x e) (is.least w refl u valid up (free-others u h));
    none = λ e u valid up. cc e;
    itself = λ h. is.itself (free-others v h);
    plain = λ x e h. subst (λ (x : Parts). x.4 ≡ []) (some-same w x e) (plain-case w (is_affected (lists_of others) v) refl free is h);
  }

-- ---- what moves the answer

-- what is free of more requirements is free of fewer
less-moves : (a : Advisory) (kept : List Advisory) (v : Parts) (answer : Option Parts) (ls : Lists) → Moves (lists_of (a ∷ kept)) v answer ls → Moves (lists_of kept) v answer ls
less-moves a kept v answer ls m = record {
  at = m.at;
  valid = m.valid;
  from = m.from;
  below = m.below;
  held = m.held;
  is_free = free-others a kept v m.at m.is_free;
}

-- requirements that one in force has too leave nothing more affected
held-too : (a : Advisory) (kept : List Advisory) (u : Parts) → list_any (λ b. lists_eq b.versions a.versions) kept ≡ true → is_affected (lists_of kept) u ≡ false
    → affected a.versions u ≡ false
held-too a [] u h free = cc h
held-too a (b ∷ kept) u h free = elim (cases_Bool (lists_eq b.versions a.versions)) [
  | inl same ↦
      let is : b.versions ≡ a.versions = (lists_decides b.versions a.versions).0 same in
      elim (cases_Bool (affected b.versions u)) [
        | inl held ↦ cc (rw held at free)
        | inr not_held ↦ subst (λ (ls : Lists). affected ls u ≡ false) is not_held
      ]
  | inr other ↦ held-too a kept u (rw other at h) (right-false (affected b.versions u) (is_affected (lists_of kept) u) free)
]

same-moves : (a : Advisory) (kept : List Advisory) (v : Parts) (answer : Option Parts) (ls : Lists) → list_any (λ b. lists_eq b.versions a.versions) kept ≡ true
    → Moves (lists_of kept) v answer ls → Moves (lists_of (a ∷ kept)) v answer ls
same-moves a kept v answer ls h m = record {
  at = m.at;
  valid = m.valid;
  from = m.from;
  below = m.below;
  held = m.held;
  is_free = or_from (affected a.versions m.at) (is_affected (lists_of kept) m.at) (held-too a kept m.at h m.is_free) m.is_free;
}

nothing : {A : Type 0} (xs : List A) → (length xs == 0) ≡ true → xs ≡ []
nothing [] h = refl
nothing (x ∷ xs) h = let e = eqb-true (length (x ∷ xs)) 0 h in absurd (omega (arith, e))

module _ (ids : List IdValue) (a : Advisory) (kept others : List Advisory) (v : Parts) (answer : Option Parts) (moved : List IdValue) where
  moved-with : AreIdsOf (IsMover ids (lists_of kept) v answer) others moved → (length moved == 0) ≡ true ⊎ (list_any (λ b. lists_eq b.versions a.versions) kept ≡ true)
      → AreIdsOf (IsMover ids (lists_of (a ∷ kept)) v answer) others moved
  moved-with is (inl none) =
      none-less (IsMover ids (lists_of kept) v answer) (IsMover ids (lists_of (a ∷ kept)) v answer) (λ b h. (h.0, less-moves a kept v answer b.versions h.1))
      others moved (nothing moved none) is
  moved-with is (inr same) =
      ids-alike (IsMover ids (lists_of kept) v answer) (IsMover ids (lists_of (a ∷ kept)) v answer) (λ b h. (h.0, same-moves a kept v answer b.versions same h.1))
      (λ b h. (h.0, less-moves a kept v answer b.versions h.1)) others moved is

-- ---- updates

pub advised : (p : PackageValue) (a : Advisory) (v : AdviceValue) → IsAdvice p v → is_same_with v a ≡ true
    → IsUpdateFor v.counted.ids (a ∷ []) v.counted.others p.version v.update
advised p a v is same =
    let kept = in_force v.counted.ids v.counted.others in
    let free = not-true (affects v.update.least_free a) (first_so (not (affects v.update.least_free a)) _ same) in
    let either = or_cases (length v.update.moved_by == 0) (list_any (λ b. lists_eq b.versions a.versions) kept) (second_so (not (affects v.update.least_free a)) _ same) in
    record {
      least_free = free-with a v.counted.others p.version v.update.least_free free is.least_free;
      is_compatible = is.is_compatible;
      moved_by = moved-with v.counted.ids a kept v.counted.others p.version v.update.least_free v.update.moved_by is.moved_by either;
    }
