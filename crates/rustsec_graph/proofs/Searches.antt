-- Whole searches keep the laws of a search: a list of places, the edges of a place, the roots.
use Rattle.std.proofs.Common.{◌≡◌, ◌∙◌, ◌+◌, ◌<◌, ◌≤◌, ◌⊎◌, inl, inr, ℕ, zero, suc, List, [], ◌∷◌, Option, Some, None, length, length-append, get_or, replicate, arith, refl, sym, ap, subst}
use Rattle.std.specs.Prelude.{Contains, nat_eq}
use Rattle.std.specs.List.{All, IsDistinct}
use Rattle.std.specs.List.Sorted.{IsNonDecreasing, IsPermutation}
use Rattle.std.proofs.lemmas.Bool.{cases_lt, eqb-true}
use Rattle.std.proofs.lemmas.List.{get_or-replicate, get_or_default, get_or_past, length-replicate}
use Rattle.std.proofs.lemmas.List.Elements.{All-contains}
use Rattle.std.proofs.lemmas.List.Folds.{Any-from_list_any}
use Rattle.std.proofs.lemmas.List.Sorted.{Contains-permutation, IsPermutation-sym}
use Rattle.std.proofs.lemmas.Map.Steps.{length-le_from_distinct_below}
use Rattle.rustsec_graph.specs.Paths.{HasEdge, successors}
use Rattle.rustsec_graph.specs.Search.{IsEarly, IsSearch, IsSearchTo, IsWhole, Rise, SearchValue, before_of, place_of, seat_of, visit_if, visits}
use Rattle.rustsec_graph.proofs.Visits.{Grown, IsStep, IsWeak, new-seat, same-weak, seat-grows, seat-keeps, seated-at, strict}

contains-cases : (x : ℕ) (xs : List ℕ) (y : ℕ) → Contains (x ∷ xs) y → (x ≡ y) ⊎ Contains xs y
contains-cases x xs y (zero, l, e) = inl e
contains-cases x xs y (suc k, l, e) = inr (k, omega (arith, l), e)

contains-later : (x : ℕ) (xs : List ℕ) (y : ℕ) → Contains xs y → Contains (x ∷ xs) y
contains-later x xs y (k, l, e) = (suc k, omega (arith, l), e)

contains-first : (x : ℕ) (xs : List ℕ) → Contains (x ∷ xs) x
contains-first x xs = (0, omega arith, refl)

abbrev Rises : List ℕ → Type 0
Rises [] = Unit {0}
Rises (x ∷ xs) = ((y : ℕ) → Contains xs y → x ≤ y) × Rises xs

rises-from : (xs : List ℕ) → ((i j : ℕ) → i ≤ j → j < length xs → get_or xs i 0 ≤ get_or xs j 0) → Rises xs
rises-from [] h = tt
rises-from (x ∷ xs) h = (
  λ y c. (let l : c.0 < length xs = c.1 in
      omega (arith, h 0 (suc c.0) (omega arith) (omega (arith, l)), get_or_default xs c.0 0 y l ∙ c.2)),
  rises-from xs (λ i j l k. h (suc i) (suc j) (omega (arith, l)) (omega (arith, k))),
)

grown-both : (before : Option ℕ) (s u t : SearchValue) → Grown before s u → Grown before u t → Grown before s t
grown-both before s u t g h = record {
  longer = omega (arith, g.longer, h.longer);
  places = λ a l. h.places a (omega (arith, l, g.longer)) ∙ g.places a l;
  befores = λ a l. h.befores a (omega (arith, l, g.longer)) ∙ g.befores a l;
  seats = λ p a e. h.seats p a (g.seats p a e);
  fresh = λ a l k. elim (cases_lt a (length u.order)) [
    | inl lt ↦ h.befores a lt ∙ g.fresh a l lt
    | inr ge ↦ h.fresh a ge k
  ];
}

module _ (edges : List (List ℕ)) (roots : List ℕ) where
  pub record Visited (before : Option ℕ) (xs : List ℕ) (s t : SearchValue) : Type 0 where
    pub is : IsSearch edges roots t
    pub grown : Grown before s t
    pub covered : (y : ℕ) → Contains xs y → (a : ℕ) × (seat_of t y ≡ Some a) × IsWeak edges roots (before_of t a) before y y

  step-grows : (before o : Option ℕ) (s u : SearchValue) (y : ℕ) → Grown before s u → IsStep edges roots s o y → IsStep edges roots u o y
  step-grows before None s u y g h = h
  step-grows before (Some i) s u y g h =
      let l : i < length s.order = h.0 in
      (omega (arith, l, g.longer), subst (λ q. HasEdge edges q y) (sym (g.places i l)) h.1)

  visits-keep : (before : Option ℕ) (xs : List ℕ) (s : SearchValue) → IsSearch edges roots s
      → ((y : ℕ) → Contains xs y → (y < length edges) × IsStep edges roots s before y) → Rises xs
      → ((a y : ℕ) → a < length s.order → Contains xs y → IsWeak edges roots (before_of s a) before (place_of s a) y)
      → Visited before xs s (visits before s xs)
  visits-keep before [] s w valid rises low = record {
    is = w;
    grown = record {
      longer = omega arith;
      places = λ a l. refl;
      befores = λ a l. refl;
      seats = λ p a e. e;
      fresh = λ a l k. absurd (omega (arith, l, k));
    };
    covered = λ y c. (let l : c.0 < 0 = c.1 in absurd (omega (arith, l)));
  }
  visits-keep before (x ∷ xs) s w valid rises low =
      one (seat_of s x) refl (λ u ku vu lu. visits-keep before xs u ku vu rises.1 lu)
    where
      here : Contains (x ∷ xs) x
      here = contains-first x xs

      one : (o : Option ℕ) → seat_of s x ≡ o
          → ((u : SearchValue) → IsSearch edges roots u → ((y : ℕ) → Contains xs y → (y < length edges) × IsStep edges roots u before y)
          → ((a y : ℕ) → a < length u.order → Contains xs y → IsWeak edges roots (before_of u a) before (place_of u a) y) → Visited before xs u (visits before u xs))
          → Visited before (x ∷ xs) s (visits before (visit_if before x o s) xs)
      one (Some k) e keep =
          let rest = keep s w (λ y c. valid y (contains-later x xs y c)) (λ a y l c. low a y l (contains-later x xs y c)) in
          let at = w.placed x k e in
          let weak = subst (λ p. IsWeak edges roots (before_of s k) before p x) at.1 (low k x at.0 here) in
          record {
            is = rest.is;
            grown = rest.grown;
            covered = λ y c. elim (contains-cases x xs y c) [
              | inl same ↦ subst (λ q. (a : ℕ) × (seat_of (visits before s xs) q ≡ Some a) × IsWeak edges roots (before_of (visits before s xs) a) before q q) same
                  (k, rest.grown.seats x k e, subst (λ p. IsWeak edges roots p before x x) (sym (rest.grown.befores k at.0)) weak)
              | inr later ↦ rest.covered y later
            ];
          }
      one None e keep =
          let inside = (valid x here).0 in
          let step = (valid x here).1 in
          let after = λ (a : ℕ) (l : a < length s.order). strict edges roots (before_of s a) before (place_of s a) x (low a x l here)
          (λ same. cc (sym (w.seated a l) ∙ ap (seat_of s) same ∙ e)) in
          let u = seated-at before x s in
          let n = length s.order in
          let ku = seat-keeps edges roots s w before x e inside step after in
          let gu = seat-grows edges roots s w before x e inside step after in
          let seat = new-seat edges roots s w before x e inside step after in
          let at = ku.placed x n seat in
          let rest = keep u ku
          (λ y c. ((valid y (contains-later x xs y c)).0, step-grows before before s u y gu (valid y (contains-later x xs y c)).1))
          (λ a y l c. elim (cases_lt a n) [
            | inl lt ↦ rw (gu.befores a lt, gu.places a lt) (low a y lt (contains-later x xs y c))
            | inr ge ↦ (
                let same : n ≡ a = omega (arith, ge, l, length-append s.order (x ∷ [])) in
                let px : place_of u a ≡ x = ap (place_of u) (sym same) ∙ at.1 in
                rw (gu.fresh a ge l, px) (same-weak edges roots before x y (rises.0 y c))
                )
          ]) in
          record {
            is = rest.is;
            grown = grown-both before s u (visits before u xs) gu rest.grown;
            covered = λ y c. elim (contains-cases x xs y c) [
              | inl same ↦ subst (λ q. (a : ℕ) × (seat_of (visits before u xs) q ≡ Some a) × IsWeak edges roots (before_of (visits before u xs) a) before q q) same (
                n,
                rest.grown.seats x n seat,
                subst (λ p. IsWeak edges roots p before x x) (sym (rest.grown.befores n at.0 ∙ gu.fresh n (omega arith) at.0)) (same-weak edges roots before x x (omega arith)),
              )
              | inr later ↦ rest.covered y later
            ];
          }

  -- ---- a whole search

  pub empty-search : (s : SearchValue) → s.order ≡ [] → s.before ≡ [] → s.seats ≡ replicate (length edges) None → IsSearch edges roots s
  unfolding IsDistinct
  empty-search s order before seats = record {
    each = ap length before ∙ sym (ap length order);
    wide = ap length seats ∙ length-replicate {A = Option ℕ} (length edges) None;
    distinct = subst (IsDistinct nat_eq) (sym order) tt;
    seated = λ a l. absurd (omega (arith, l, ap length order));
    placed = λ p a e. cc (sym e ∙ ap (λ xs. get_or xs p None) seats ∙ no-seat p);
    first = λ a l e. absurd (omega (arith, l, ap length order));
    next = λ a i e. cc (sym e ∙ ap (λ xs. get_or xs a None) before);
    rising = λ a b l k. absurd (omega (arith, k, ap length order));
  }
    where
      no-seat : (p : ℕ) → get_or {A = Option ℕ} (replicate (length edges) None) p None ≡ None
      no-seat p = elim (cases_lt p (length edges)) [
        | inl l ↦ get_or-replicate {A = Option ℕ} (length edges) p None None l
        | inr ge ↦ get_or_past (replicate (length edges) None) p None (omega (arith, ge, length-replicate {A = Option ℕ} (length edges) None))
      ]

  weak-root : (o : Option ℕ) (a b : ℕ) → IsWeak edges roots o None a b → o ≡ None
  weak-root None a b h = refl
  weak-root (Some i) a b h = absurd h

  weak-early : (o : Option ℕ) (limit a b : ℕ) → IsWeak edges roots o (Some limit) a b → IsEarly o limit
  weak-early None limit a b h = tt
  weak-early (Some i) limit a b (inl l) = omega (arith, l)
  weak-early (Some i) limit a b (inr (e, l)) = omega (arith, e)

  past-seats : (s : SearchValue) → IsSearch edges roots s → (a i : ℕ) → before_of s a ≡ Some i → a < length s.order
  past-seats s w a i e = elim (cases_lt a (length s.order)) [
    | inl l ↦ l
    | inr ge ↦ cc (sym e ∙ get_or_past s.before a None (omega (arith, ge, w.each)))
  ]

  pub roots-searched : (s t : SearchValue) → s.order ≡ [] → s.before ≡ [] → s.seats ≡ replicate (length edges) None → Rise roots
      → ((y : ℕ) → Contains roots y → y < length edges) → t ≡ visits None s roots → IsSearchTo edges roots 0 t
  roots-searched s t order before seats rise inside is = subst (IsSearchTo edges roots 0) (sym is) so
    where
      below : (i j : ℕ) → i ≤ j → j < length roots → get_or roots i 0 ≤ get_or roots j 0
      below i j l k = elim (cases_lt i j) [
        | inl lt ↦ (let m : get_or roots i 0 < get_or roots j 0 = rise i j 0 lt k in omega (arith, m))
        | inr ge ↦ (let same : i ≡ j = omega (arith, l, ge) in omega (arith, ap (λ n. get_or roots n 0) same))
      ]

      v : Visited None roots s (visits None s roots)
      v = visits-keep None roots s (empty-search s order before seats) (λ y c. (inside y c, c)) (rises-from roots below)
          (λ a y l c. absurd (omega (arith, l, ap length order)))

      so : IsSearchTo edges roots 0 (visits None s roots)
      so = record {
        is = v.is;
        all_roots = λ root c. (let at = v.covered root c in (at.0, at.1, weak-root _ root root at.2));
        all_edges = λ from to l edge. absurd (omega (arith, l));
        bounded = λ a i e. cc (sym e ∙ v.grown.fresh a (omega (arith, ap length order)) (past-seats (visits None s roots) v.is a i e));
      }

  pub step-searched : (head : ℕ) (s t : SearchValue) (xs : List ℕ) → IsSearchTo edges roots head s → head < length s.order
      → ((y : ℕ) → Contains (successors edges (place_of s head)) y → y < length edges) → IsPermutation (successors edges (place_of s head)) xs
      → IsNonDecreasing xs → t ≡ visits (Some head) s xs → IsSearchTo edges roots (head + 1) t
  step-searched head s t xs w l inside same rises is = subst (IsSearchTo edges roots (head + 1)) (sym is) so
    where
      place : ℕ
      place = place_of s head

      from-successors : (y : ℕ) → Contains xs y → Contains (successors edges place) y
      from-successors y c = Contains-permutation xs (successors edges place) y (IsPermutation-sym (successors edges place) xs same) c

      low : (o : Option ℕ) (a b : ℕ) → ((i : ℕ) → o ≡ Some i → i < head) → IsWeak edges roots o (Some head) a b
      low None a b h = tt
      low (Some i) a b h = inl (h i refl)

      v : Visited (Some head) xs s (visits (Some head) s xs)
      v = visits-keep (Some head) xs s w.is (λ y c. (inside y (from-successors y c), (l, from-successors y c)))
          (rises-from xs (λ i j m k. rises i j 0 m k)) (λ a y m c. low (before_of s a) (place_of s a) y (λ i e. w.bounded a i e))

      u : SearchValue
      u = visits (Some head) s xs

      early : (o p : Option ℕ) (from : ℕ) → o ≡ p → IsEarly p from → IsEarly o from
      early o p from e h = subst (λ q. IsEarly q from) (sym e) h

      all-edges : (from to : ℕ) → from < head + 1 → HasEdge edges (place_of u from) to
          → (a : ℕ) × (seat_of u to ≡ Some a) × IsEarly (before_of u a) from
      all-edges from to k edge = elim (cases_lt from head) [
        | inl lt ↦ (
            let at = w.all_edges from to lt (subst (λ q. HasEdge edges q to) (v.grown.places from (omega (arith, lt, l))) edge) in
            let inside = w.is.placed to at.0 at.1 in
            (at.0, v.grown.seats to at.0 at.1, early _ _ from (v.grown.befores at.0 inside.0) at.2)
            )
        | inr ge ↦ (
            let here : from ≡ head = omega (arith, ge, k) in
            let edge-here : HasEdge edges place to = subst (λ q. HasEdge edges q to) (ap (place_of u) here ∙ v.grown.places head l) edge in
            let at = v.covered to (Contains-permutation (successors edges place) xs to same edge-here) in
            (at.0, at.1, subst (IsEarly (before_of u at.0)) (sym here) (weak-early _ head to to at.2))
            )
      ]

      bounded : (a i : ℕ) → before_of u a ≡ Some i → i < head + 1
      bounded a i e = elim (cases_lt a (length s.order)) [
        | inl lt ↦ (let m : i < head = w.bounded a i (sym (v.grown.befores a lt) ∙ e) in omega (arith, m))
        | inr ge ↦ (let same : head ≡ i = cc (sym (v.grown.fresh a ge (past-seats u v.is a i e)) ∙ e) in omega (arith, same))
      ]

      so : IsSearchTo edges roots (head + 1) u
      so = record {
        is = v.is;
        all_roots = λ root c. (
            let at = w.all_roots root c in
            let inside = w.is.placed root at.0 at.1 in
            (at.0, v.grown.seats root at.0 at.1, v.grown.befores at.0 inside.0 ∙ at.2)
            );
        all_edges = all-edges;
        bounded = bounded;
      }

  seat-within : (s : SearchValue) (p a : ℕ) → IsSearch edges roots s → seat_of s p ≡ Some a → p < length edges
  seat-within s p a w e = elim (cases_lt p (length s.seats)) [
    | inl l ↦ omega (arith, l, w.wide)
    | inr ge ↦ cc (sym e ∙ get_or_past s.seats p None ge)
  ]

  -- there are no more seats than places
  pub few-seats : (s : SearchValue) → IsSearch edges roots s → length s.order ≤ length edges
  few-seats s w = length-le_from_distinct_below s.order (length edges) w.distinct (λ q h. (
      let found = Any-from_list_any (nat_eq q) s.order h in
      let same : q ≡ found.1 = eqb-true q found.1 found.4 in
      let at : place_of s found.0 ≡ q = get_or_default s.order found.0 0 found.1 found.2 ∙ found.3 ∙ sym same in
      seat-within s q found.0 w (ap (seat_of s) (sym at) ∙ w.seated found.0 found.2)
      ))

  -- after the last seat the search is whole
  pub whole-from : (limit : ℕ) (s : SearchValue) → IsSearchTo edges roots limit s → length s.order ≤ limit → IsWhole edges roots s
  whole-from limit s w l = record {
    is = w.is;
    all_roots = λ root c. w.all_roots root c;
    all_edges = λ from to k edge. w.all_edges from to (omega (arith, k, l)) edge;
    bounded = λ a i e. omega (arith, past-seats s w.is a i e, (w.is.next a i e).0);
  }

pub all-permuted : (n : ℕ) (xs ys zs : List ℕ) → IsPermutation xs ys → zs ≡ ys → All (λ x. x < n) xs → (k d : ℕ) → k < length zs → get_or zs k d < n
all-permuted n xs ys zs same is all k d l =
    let inside : k < length ys = omega (arith, l, ap length is) in
    let y = get_or ys k 0 in
    let there : Contains xs y = Contains-permutation ys xs y (IsPermutation-sym xs ys same) (k, inside, get_or_default ys k y 0 inside) in
    let small : y < n = All-contains (λ x. x < n) xs y all there in
    omega (arith, small, ap (λ ws. get_or ws k d) is, get_or_default ys k d 0 inside)
