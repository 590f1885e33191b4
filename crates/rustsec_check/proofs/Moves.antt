-- Which ranges move an answer: the least free version above where a range begins decides.
use Rattle.std.proofs.Common.{◌≡◌, ◌∙◌, ◌+◌, ℕ, zero, suc, true, false, List, [], ◌∷◌, ◌++◌, Option, Some, None, inl, inr, refl, subst, sym, take}
use Rattle.std.proofs.lemmas.Bool.{cases_Bool}
use Rattle.semver.specs.Parse.{Parts}
use Rattle.rustsec_versions.specs.acceptance.Lists.{Lists, affected}
use Rattle.rustsec_versions.specs.order.Precedence.{IsVersion, is_at_most}
use Rattle.rustsec_versions.specs.ranges.Ranges.{Range, in_range, in_ranges, is_from, is_until}
use Rattle.rustsec_versions.proofs.lemmas.order.PrecedenceLaws.{at_most-trans, below-weak, not_at_most}
use Rattle.rustsec_check.specs.LeastFree.{HaveValidStarts, IsLeastFree, IsValidStart, is_affected}
use Rattle.rustsec_check.specs.Moving.{MovesIn, NoneMoves, later}
use Rattle.rustsec_check.specs.Updates.{Moves}
use Rattle.rustsec_check.proofs.Sweep.{at_most-refl, both, both-first, both-second, from-up, till-down}

-- ---- the later one of a version and of where a range begins

module _ (v : Parts) where
  pub later-valid : (introduced : Option Parts) → IsVersion v → IsValidStart introduced → IsVersion (later introduced v)
  later-valid None valid start = valid
  later-valid (Some introduced) valid start = elim (cases_Bool (is_at_most introduced v)) [
    | inl low ↦ rw low valid
    | inr high ↦ rw high start
  ]

  later-from : (introduced : Option Parts) → is_at_most v (later introduced v) ≡ true
  later-from None = at_most-refl v
  later-from (Some introduced) = elim (cases_Bool (is_at_most introduced v)) [
    | inl low ↦ rw low (at_most-refl v)
    | inr high ↦ rw high (below-weak v introduced (not_at_most introduced v high))
  ]

  later-up : (introduced : Option Parts) → is_from introduced (later introduced v) ≡ true
  later-up None = refl
  later-up (Some introduced) = elim (cases_Bool (is_at_most introduced v)) [
    | inl low ↦ rw low low
    | inr high ↦ rw high (at_most-refl introduced)
  ]

  later-least : (introduced : Option Parts) (u : Parts) → is_at_most v u ≡ true → is_from introduced u ≡ true → is_at_most (later introduced v) u ≡ true
  later-least None u low up = low
  later-least (Some introduced) u low up = elim (cases_Bool (is_at_most introduced v)) [
    | inl under ↦ rw under low
    | inr high ↦ rw high up
  ]

-- ---- one range

module _ (all : List Lists) (v : Parts) (answer : Option Parts) (r : Range) where
  pub moves-at : (found : Parts) → IsLeastFree all (later r.introduced v) (Some found) → is_until r.fixed found ≡ true → is_until answer found ≡ true
      → MovesIn all v answer r
  moves-at found free till under =
      let (valid, low, is_free) = free.some found refl in
      record {
        at = found;
        valid = valid;
        from = at_most-trans v (later r.introduced v) found (later-from v r.introduced) low;
        below = under;
        inside = both (is_from r.introduced found) (is_until r.fixed found) (from-up r.introduced (later r.introduced v) found (later-up v r.introduced) low) till;
        is_free = is_free;
      }

  reached : (m : MovesIn all v answer r) → is_at_most (later r.introduced v) m.at ≡ true
  reached m = later-least v r.introduced m.at m.from (both-first (is_from r.introduced m.at) (is_until r.fixed m.at) m.inside)

  pub not-past : (found : Parts) → IsLeastFree all (later r.introduced v) (Some found) → MovesIn all v answer r → (is_until r.fixed found ≡ true) × (is_until answer found ≡ true)
  not-past found free m =
      let low : is_at_most found m.at ≡ true = free.least found refl m.at m.valid (reached m) m.is_free in
      (till-down r.fixed found m.at low (both-second (is_from r.introduced m.at) (is_until r.fixed m.at) m.inside), till-down answer found m.at low m.below)

  pub never-moves : IsLeastFree all (later r.introduced v) None → ¬ MovesIn all v answer r
  never-moves free m = cc (sym m.is_free ∙ free.none refl m.at m.valid (reached m))

-- ---- several ranges

module _ (all : List Lists) (v : Parts) (answer : Option Parts) where
  pub none-more : (rs : List Range) (r : Range) → NoneMoves all v answer rs → ¬ MovesIn all v answer r → NoneMoves all v answer (rs ++ r ∷ [])
  none-more [] r none not = (not, tt)
  none-more (s ∷ rs) r none not = (none.0, none-more rs r none.1 not)

  none-holds : (rs : List Range) (m : Parts) → NoneMoves all v answer rs → IsVersion m → is_at_most v m ≡ true → is_until answer m ≡ true → is_affected all m ≡ false
      → in_ranges rs m ≡ false
  none-holds [] m none valid low under is_free = refl
  none-holds (r ∷ rs) m none valid low under is_free = elim (cases_Bool (in_range r m)) [
    | inl here ↦ absurd (none.0 (record { at = m; valid = valid; from = low; below = under; inside = here; is_free = is_free }))
    | inr other ↦ rw (other, none-holds rs m none.1 valid low under is_free) refl
  ]

  -- requirements whose ranges do not move the answer do not either
  pub unmoved : (ls : Lists) (rs : List Range) → ((u : Parts) → IsVersion u → in_ranges rs u ≡ affected ls u) → NoneMoves all v answer rs → ¬ Moves all v answer ls
  unmoved ls rs agree none m = cc (sym m.held ∙ (sym (agree m.at m.valid) ∙ none-holds rs m.at none m.valid m.from m.below m.is_free))

  -- those with a range that moves it do
  pub moved : (ls : Lists) (rs : List Range) (r : Range) → ((u : Parts) → IsVersion u → in_ranges rs u ≡ affected ls u)
      → ((u : Parts) → in_range r u ≡ true → in_ranges rs u ≡ true) → MovesIn all v answer r → Moves all v answer ls
  moved ls rs r agree there m = record {
    at = m.at;
    valid = m.valid;
    from = m.from;
    below = m.below;
    held = sym (agree m.at m.valid) ∙ there m.at m.inside;
    is_free = m.is_free;
  }

-- ---- the ranges up to one

starts-take : (n : ℕ) (rs : List Range) → HaveValidStarts rs → HaveValidStarts (take n rs)
starts-take zero rs h = tt
starts-take (suc n) [] h = tt
starts-take (suc n) (r ∷ rs) h = (h.0, starts-take n rs h.1)

starts-last : (rs : List Range) (r : Range) → HaveValidStarts (rs ++ r ∷ []) → IsValidStart r.introduced
starts-last [] r h = h.0
starts-last (s ∷ rs) r h = starts-last rs r h.1

held-take : (n : ℕ) (rs : List Range) (u : Parts) → in_ranges (take n rs) u ≡ true → in_ranges rs u ≡ true
held-take zero rs u h = cc h
held-take (suc n) [] u h = cc h
held-take (suc n) (r ∷ rs) u h = elim (cases_Bool (in_range r u)) [
  | inl here ↦ rw here refl
  | inr other ↦ rw other (held-take n rs u (rw other at h))
]

held-last : (rs : List Range) (r : Range) (u : Parts) → in_range r u ≡ true → in_ranges (rs ++ r ∷ []) u ≡ true
held-last [] r u h = rw h refl
held-last (s ∷ rs) r u h = elim (cases_Bool (in_range s u)) [
  | inl here ↦ rw here refl
  | inr other ↦ rw other (held-last rs r u h)
]

module _ (rs : List Range) (n : ℕ) (r : Range) (more : take (n + 1) rs ≡ take n rs ++ r ∷ []) where
  pub start-there : HaveValidStarts rs → IsValidStart r.introduced
  start-there h = starts-last (take n rs) r (subst HaveValidStarts more (starts-take (n + 1) rs h))

  pub held-there : (u : Parts) → in_range r u ≡ true → in_ranges rs u ≡ true
  held-there u h = held-take (n + 1) rs u (subst (λ (ss : List Range). in_ranges ss u ≡ true) (sym more) (held-last (take n rs) r u h))
