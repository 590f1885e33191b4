-- Visits keep the laws of a search.
use Rattle.std.proofs.Common.{◌≡◌, ◌≢◌, ◌∙◌, ◌+◌, ◌<◌, ◌≤◌, ◌++◌, ◌⊎◌, inl, inr, ℕ, false, List, [], ◌∷◌, Option, Some, None, length, length-append, get_or, arith, refl, sym, ap, subst}
use Rattle.std.specs.Prelude.{Contains, nat_eq}
use Rattle.std.specs.Cmp.{nat_eq_equiv}
use Rattle.std.specs.List.{list_any}
use Rattle.std.proofs.lemmas.Bool.{cases_eq, cases_lt, ne_eqb}
use Rattle.std.proofs.lemmas.List.{get_or-set_other, get_or-set_same, get_or_append_left, get_or_default, get_or_past, length-set}
use Rattle.std.proofs.lemmas.List.Folds.{list_any_none}
use Rattle.std.proofs.lemmas.Map.Keys.{IsDistinct-push}
use Rattle.std.proofs.Math.Seq.{get_or-append_seam}
use Rattle.rustsec_graph.specs.Paths.{HasEdge}
use Rattle.rustsec_graph.specs.Search.{IsRising, IsSearch, SearchValue, before_of, place_of, seat_of, visit_if}

-- ---- one place more

-- a new seat for a place without one
abbrev pub seated-at : Option ℕ → ℕ → SearchValue → SearchValue
seated-at before place s = visit_if before place None s

-- the seats stay, and each new one has this seat before it
pub record Grown (before : Option ℕ) (s t : SearchValue) : Type 0 where
  pub longer : length s.order ≤ length t.order
  pub places : (a : ℕ) → a < length s.order → place_of t a ≡ place_of s a
  pub befores : (a : ℕ) → a < length s.order → before_of t a ≡ before_of s a
  pub seats : (p a : ℕ) → seat_of s p ≡ Some a → seat_of t p ≡ Some a
  pub fresh : (a : ℕ) → length s.order ≤ a → a < length t.order → before_of t a ≡ before

module _ (edges : List (List ℕ)) (roots : List ℕ) where
  -- a place that a seat leads to, or a root
  abbrev pub IsStep : SearchValue → Option ℕ → ℕ → Type 0
  IsStep s None place = Contains roots place
  IsStep s (Some before) place = (before < length s.order) × HasEdge edges (place_of s before) place

  -- as `IsRising`, or the same place
  abbrev pub IsWeak : Option ℕ → Option ℕ → ℕ → ℕ → Type 0
  IsWeak None None a b = a ≤ b
  IsWeak None (Some j) a b = Unit {0}
  IsWeak (Some i) None a b = ⊥
  IsWeak (Some i) (Some j) a b = (i < j) ⊎ ((i ≡ j) × (a ≤ b))

  pub strict : (o p : Option ℕ) (a b : ℕ) → IsWeak o p a b → a ≢ b → IsRising o p a b
  strict None None a b h ne = omega (arith, h, ne)
  strict None (Some j) a b h ne = tt
  strict (Some i) None a b h ne = h
  strict (Some i) (Some j) a b (inl l) ne = inl l
  strict (Some i) (Some j) a b (inr (e, l)) ne = inr (e, omega (arith, l, ne))

  pub same-weak : (o : Option ℕ) (a b : ℕ) → a ≤ b → IsWeak o o a b
  same-weak None a b l = l
  same-weak (Some i) a b l = inr (refl, l)

  module _ (s : SearchValue) (w : IsSearch edges roots s) (before : Option ℕ) (place : ℕ) (fresh : seat_of s place ≡ None) (inside : place < length edges)
      (step : IsStep s before place) (after : (a : ℕ) → a < length s.order → IsRising (before_of s a) before (place_of s a) place) where
    abbrev t : SearchValue
    t = seated-at before place s

    abbrev n : ℕ
    n = length s.order

    more : length t.order ≡ n + 1
    more = length-append s.order (place ∷ [])

    place-old : (a : ℕ) → a < n → place_of t a ≡ place_of s a
    place-old a l = get_or_append_left s.order (place ∷ []) 0 a l

    place-new : place_of t n ≡ place
    place-new = get_or-append_seam s.order place [] 0

    before-old : (a : ℕ) → a < n → before_of t a ≡ before_of s a
    before-old a l = get_or_append_left s.before (before ∷ []) None a (omega (arith, l, w.each))

    before-new : before_of t n ≡ before
    before-new = ap (λ k. get_or (s.before ++ before ∷ []) k None) (sym w.each) ∙ get_or-append_seam s.before before [] None

    before-past : (a : ℕ) → n < a → before_of t a ≡ None
    before-past a l = get_or_past t.before a None (omega (arith, l, w.each, length-append s.before (before ∷ [])))

    seat-new : seat_of t place ≡ Some n
    seat-new = get_or-set_same s.seats place (Some n) None (omega (arith, inside, w.wide))

    seat-old : (a : ℕ) → a ≢ place → seat_of t a ≡ seat_of s a
    seat-old a ne = get_or-set_other s.seats place a (Some n) None ne

    other : (a : ℕ) → a < n → place_of s a ≢ place
    other a l e = cc (sym (w.seated a l) ∙ ap (seat_of s) e ∙ fresh)

    absent : list_any (nat_eq place) s.order ≡ false
    absent = list_any_none (nat_eq place) s.order (λ k d l. ne_eqb place _ (λ e. other k l (sym (e ∙ get_or_default s.order k d 0 l))))

    seated : (a : ℕ) → a < length t.order → seat_of t (place_of t a) ≡ Some a
    seated a l = elim (cases_lt a n) [
      | inl lt ↦ ap (seat_of t) (place-old a lt) ∙ seat-old (place_of s a) (other a lt) ∙ w.seated a lt
      | inr ge ↦ (
          let same : n ≡ a = omega (arith, ge, l, more) in
          ap (λ k. seat_of t (place_of t k)) (sym same) ∙ ap (seat_of t) place-new ∙ seat-new ∙ ap Some same
          )
    ]

    placed : (p a : ℕ) → seat_of t p ≡ Some a → (a < length t.order) × (place_of t a ≡ p)
    placed p a e = elim (cases_eq p place) [
      | inl same ↦ (
          let last : n ≡ a = cc (sym seat-new ∙ ap (seat_of t) (sym same) ∙ e) in
          (omega (arith, last, more), ap (place_of t) (sym last) ∙ place-new ∙ sym same)
          )
      | inr ne ↦ (
          let there = w.placed p a (sym (seat-old p ne) ∙ e) in
          let l : a < n = there.0 in
          (omega (arith, l, more), place-old a l ∙ there.1)
          )
    ]

    as-root : (o : Option ℕ) → IsStep s o place → o ≡ None → Contains roots place
    as-root None h e = h
    as-root (Some i) h e = cc e

    as-next : (o : Option ℕ) → IsStep s o place → (i : ℕ) → o ≡ Some i → (i < n) × HasEdge edges (place_of s i) place
    as-next None h i e = cc e
    as-next (Some j) h i e =
        let same : j ≡ i = cc e in
        (subst (λ k. k < n) same h.0, subst (λ k. HasEdge edges (place_of s k) place) same h.1)

    first : (a : ℕ) → a < length t.order → before_of t a ≡ None → Contains roots (place_of t a)
    first a l e = elim (cases_lt a n) [
      | inl lt ↦ subst (Contains roots) (sym (place-old a lt)) (w.first a lt (sym (before-old a lt) ∙ e))
      | inr ge ↦ (
          let same : n ≡ a = omega (arith, ge, l, more) in
          subst (λ k. Contains roots (place_of t k)) same
          (subst (Contains roots) (sym place-new) (as-root before step (sym before-new ∙ ap (before_of t) same ∙ e)))
          )
    ]

    next-new : (i : ℕ) → before_of t n ≡ Some i → (i < n) × HasEdge edges (place_of t i) (place_of t n)
    next-new i e =
        let from = as-next before step i (sym before-new ∙ e) in
        (from.0, subst (λ q. HasEdge edges q (place_of t n)) (sym (place-old i from.0)) (subst (HasEdge edges (place_of s i)) (sym place-new) from.1))

    next : (a i : ℕ) → before_of t a ≡ Some i → (i < a) × HasEdge edges (place_of t i) (place_of t a)
    next a i e = elim (cases_lt a n) [
      | inl lt ↦ (
          let from = w.next a i (sym (before-old a lt) ∙ e) in
          let l : i < a = from.0 in
          (l, subst (λ q. HasEdge edges q (place_of t a)) (sym (place-old i (omega (arith, l, lt)))) (subst (HasEdge edges (place_of s i)) (sym (place-old a lt)) from.1))
          )
      | inr ge ↦ elim (cases_eq n a) [
        | inl same ↦ subst (λ k. (i < k) × HasEdge edges (place_of t i) (place_of t k)) same (next-new i (ap (before_of t) same ∙ e))
        | inr ne ↦ cc (sym (before-past a (omega (arith, ge, ne))) ∙ e)
      ]
    ]

    rising : (a b : ℕ) → a < b → b < length t.order → IsRising (before_of t a) (before_of t b) (place_of t a) (place_of t b)
    rising a b l k = elim (cases_lt b n) [
      | inl lt ↦ (
          let m : a < n = omega (arith, l, lt) in
          rw (before-old a m, before-old b lt, place-old a m, place-old b lt) (w.rising a b l lt)
          )
      | inr ge ↦ (
          let same : b ≡ n = omega (arith, ge, k, more) in
          let m : a < n = omega (arith, l, same) in
          rw (same, before-old a m, before-new, place-old a m, place-new) (after a m)
          )
    ]

    pub seat-keeps : IsSearch edges roots t
    seat-keeps = record {
      each = length-append s.before (before ∷ []) ∙ ap (λ k. k + 1) w.each ∙ sym more;
      wide = length-set s.seats place (Some n) ∙ w.wide;
      distinct = IsDistinct-push nat_eq_equiv s.order place w.distinct absent;
      seated = seated;
      placed = placed;
      first = first;
      next = next;
      rising = rising;
    }

    pub new-seat : seat_of t place ≡ Some n
    new-seat = seat-new

    pub seat-grows : Grown before s t
    seat-grows = record {
      longer = omega (arith, more);
      places = place-old;
      befores = before-old;
      seats = λ p a e. seat-old p (λ same. cc (sym e ∙ ap (seat_of s) same ∙ fresh)) ∙ e;
      fresh = λ a l k. (let same : n ≡ a = omega (arith, l, k, more) in ap (before_of t) (sym same) ∙ before-new);
    }
