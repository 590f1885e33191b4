-- The paths of a whole search are the first of the shortest ones.
use Rattle.std.proofs.Common.{◌≡◌, ◌≢◌, ◌∙◌, ◌+◌, ◌<◌, ◌≤◌, ◌++◌, ◌⊎◌, inl, inr, ℕ, zero, suc, List, [], ◌∷◌, Option, Some, None, Less, Equal, Greater, length, length-append, append_assoc, reverse, arith, refl, sym, ap, subst}
use Rattle.std.specs.Prelude.{option_map}
use Rattle.std.specs.Cmp.{nat_cmp_is}
use Rattle.std.specs.Cmp.Lexicographic.{nat_list_cmp_total, slice_cmp}
use Rattle.std.specs.Option.{option_map_or}
use Rattle.std.specs.Ordering.{nat_cmp, ordering_then}
use Rattle.std.specs.declared.cmp.Ordering.{Ordering}
use Rattle.std.proofs.lemmas.Bool.{cases_lt}
use Rattle.std.proofs.lemmas.List.{append-nil, reverse-append}
use Rattle.rustsec_graph.specs.Paths.{HasEdge, IsAnswer, IsFirst, IsPathTo, LeadsTo, StartsAt}
use Rattle.rustsec_graph.specs.Search.{IsEarly, IsRising, IsWhole, SearchValue, before_of, path_at, path_if, path_to, path_within, place_of, seat_of}

-- ---- paths in order: by length, and then place by place

abbrev Precedes : List ℕ → List ℕ → Type 0
Precedes p q = (length p < length q) ⊎ ((length p ≡ length q) × (slice_cmp nat_cmp p q ≡ Less))

abbrev AtMost : List ℕ → List ℕ → Type 0
AtMost p q = Precedes p q ⊎ (p ≡ q)

longer : (p : List ℕ) (x : ℕ) → length (p ++ x ∷ []) ≡ length p + 1
longer p x = length-append p (x ∷ [])

then-less : (o : Ordering) (r s : Ordering) → ordering_then o r ≡ Less → (r ≡ Less → s ≡ Less) → ordering_then o s ≡ Less
then-less Less r s h more = refl
then-less Equal r s h more = more h
then-less Greater r s h more = cc h

less-more : (p q : List ℕ) (x y : ℕ) → length p ≡ length q → slice_cmp nat_cmp p q ≡ Less → slice_cmp nat_cmp (p ++ x ∷ []) (q ++ y ∷ []) ≡ Less
less-more [] [] x y e h = cc h
less-more [] (b ∷ q) x y e h = absurd (omega (arith, e))
less-more (a ∷ p) [] x y e h = absurd (omega (arith, e))
less-more (a ∷ p) (b ∷ q) x y e h =
    then-less (nat_cmp a b) (slice_cmp nat_cmp p q) (slice_cmp nat_cmp (p ++ x ∷ []) (q ++ y ∷ [])) h (less-more p q x y (omega (arith, e)))

less-last : (p : List ℕ) (x y : ℕ) → x < y → slice_cmp nat_cmp (p ++ x ∷ []) (p ++ y ∷ []) ≡ Less
less-last [] x y l = ap (λ o. ordering_then o Equal) (sym (nat_cmp_is x y Less l))
less-last (a ∷ p) x y l =
    ap (λ o. ordering_then o (slice_cmp nat_cmp (p ++ x ∷ []) (p ++ y ∷ []))) (sym (nat_cmp_is a a Equal refl)) ∙ less-last p x y l

same-cmp : (p : List ℕ) → slice_cmp nat_cmp p p ≡ Equal
same-cmp [] = refl
same-cmp (a ∷ p) = ap (λ o. ordering_then o (slice_cmp nat_cmp p p)) (sym (nat_cmp_is a a Equal refl)) ∙ same-cmp p

precedes-more : (p q : List ℕ) (x y : ℕ) → Precedes p q → Precedes (p ++ x ∷ []) (q ++ y ∷ [])
precedes-more p q x y (inl l) = inl (omega (arith, longer p x, longer q y, l))
precedes-more p q x y (inr (e, h)) = inr (longer p x ∙ ap (λ n. n + 1) e ∙ sym (longer q y), less-more p q x y e h)

precedes-last : (p : List ℕ) (x y : ℕ) → x < y → Precedes (p ++ x ∷ []) (p ++ y ∷ [])
precedes-last p x y l = inr (longer p x ∙ sym (longer p y), less-last p x y l)

precedes-both : (p q r : List ℕ) → Precedes p q → Precedes q r → Precedes p r
precedes-both p q r (inl a) (inl b) = inl (omega (arith, a, b))
precedes-both p q r (inl a) (inr b) = inl (omega (arith, a, b.0))
precedes-both p q r (inr a) (inl b) = inl (omega (arith, a.0, b))
precedes-both p q r (inr a) (inr b) = inr (a.0 ∙ b.0, nat_list_cmp_total.trans p q r a.1 b.1)

precedes-at-most : (p q r : List ℕ) → Precedes p q → AtMost q r → AtMost p r
precedes-at-most p q r h (inl g) = inl (precedes-both p q r h g)
precedes-at-most p q r h (inr e) = inl (subst (Precedes p) e h)

at-most-more : (p q : List ℕ) (x : ℕ) → AtMost p q → AtMost (p ++ x ∷ []) (q ++ x ∷ [])
at-most-more p q x (inl h) = inl (precedes-more p q x x h)
at-most-more p q x (inr e) = inr (ap (λ xs. xs ++ x ∷ []) e)

at-most-length : (p q : List ℕ) → AtMost p q → length p ≤ length q
at-most-length p q (inl (inl l)) = omega (arith, l)
at-most-length p q (inl (inr h)) = omega (arith, h.0)
at-most-length p q (inr e) = omega (arith, ap length e)

at-most-first : (p q : List ℕ) → AtMost p q → length q ≤ length p → slice_cmp nat_cmp p q ≢ Greater
at-most-first p q (inl (inl l)) short g = absurd (omega (arith, l, short))
at-most-first p q (inl (inr h)) short g = cc (sym h.1 ∙ g)
at-most-first p q (inr e) short g = cc (sym (same-cmp p) ∙ ap (slice_cmp nat_cmp p) e ∙ g)

-- ---- one more place on a path

starts-more : (roots p : List ℕ) (x : ℕ) → StartsAt roots p → StartsAt roots (p ++ x ∷ [])
starts-more roots [] x h = absurd h
starts-more roots (a ∷ p) x h = h

leads-more : (edges : List (List ℕ)) (u x : ℕ) (p : List ℕ) → LeadsTo edges u p → HasEdge edges u x → LeadsTo edges x (p ++ x ∷ [])
leads-more edges u x [] h edge = absurd h
leads-more edges u x (a ∷ []) h edge = (subst (λ v. HasEdge edges v x) (sym h) edge, refl)
leads-more edges u x (a ∷ (b ∷ p)) h edge = (h.0, leads-more edges u x (b ∷ p) h.1 edge)

-- ---- the paths of a search

module _ (s : SearchValue) (down : (seat before : ℕ) → before_of s seat ≡ Some before → before < seat) where
  same-within : (n m seat : ℕ) → seat < n → seat < m → path_within s n seat ≡ path_within s m seat
  same-within zero m seat l k = absurd (omega (arith, l))
  same-within (suc n) zero seat l k = absurd (omega (arith, k))
  same-within (suc n) (suc m) seat l k =
      ap (λ xs. xs ++ place_of s seat ∷ []) (one (before_of s seat) refl
      (λ (before : ℕ) (lower : before < seat). same-within n m before (omega (arith, lower, l)) (omega (arith, lower, k))))
    where
      one : (o : Option ℕ) → before_of s seat ≡ o → ((before : ℕ) → before < seat → path_within s n before ≡ path_within s m before)
          → option_map_or (path_within s n) o [] ≡ option_map_or (path_within s m) o []
      one None e same = refl
      one (Some before) e same = same before (down seat before e)

  pub at-root : (seat : ℕ) → before_of s seat ≡ None → path_at s seat ≡ place_of s seat ∷ []
  at-root seat e = ap (λ o. option_map_or (path_within s seat) o [] ++ place_of s seat ∷ []) e

  pub at-next : (seat before : ℕ) → before_of s seat ≡ Some before → path_at s seat ≡ path_at s before ++ place_of s seat ∷ []
  at-next seat before e =
      let lower : before < seat = down seat before e in
      ap (λ o. option_map_or (path_within s seat) o [] ++ place_of s seat ∷ []) e
      ∙ ap (λ xs. xs ++ place_of s seat ∷ []) (same-within seat (suc before) before lower (omega arith))

  -- the way back from a seat
  pub at-step : (seat : ℕ) (path new : List ℕ) → new ≡ path ++ place_of s seat ∷ []
      → path_at s seat ++ reverse path ≡ path_if s (before_of s seat) ++ reverse new
  at-step seat path new is = one (before_of s seat) refl
    where
      back : reverse new ≡ place_of s seat ∷ reverse path
      back = ap reverse is ∙ reverse-append path (place_of s seat ∷ [])

      one : (o : Option ℕ) → before_of s seat ≡ o → path_at s seat ++ reverse path ≡ path_if s o ++ reverse new
      one None e = ap (λ xs. xs ++ reverse path) (at-root seat e) ∙ sym back
      one (Some before) e =
          ap (λ xs. xs ++ reverse path) (at-next seat before e) ∙ append_assoc (path_at s before) (place_of s seat ∷ []) (reverse path)
          ∙ ap (λ xs. path_at s before ++ xs) (sym back)

module _ (edges : List (List ℕ)) (roots : List ℕ) (s : SearchValue) (w : IsWhole edges roots s) where
  down : (seat before : ℕ) → before_of s seat ≡ Some before → before < seat
  down seat before e = (w.is.next seat before e).0

  some-place : (seat : ℕ) → 1 ≤ length (path_at s seat)
  some-place seat = omega (arith, longer (option_map_or (path_within s seat) (before_of s seat) []) (place_of s seat))

  rooted : (seat : ℕ) → before_of s seat ≡ None → length (path_at s seat) ≡ 1
  rooted seat e = ap length (at-root s down seat e)

  -- the paths are in order
  rise : (n a b : ℕ) → a < b → b < length s.order → b < n → Precedes (path_at s a) (path_at s b)
  rise zero a b l k m = absurd (omega (arith, m))
  rise (suc n) a b l k m =
      one (before_of s a) (before_of s b) refl refl (w.is.rising a b l k)
      (λ (i j : ℕ) (lower : i < j) (below : j < b). rise n i j lower (omega (arith, below, k)) (omega (arith, below, m)))
    where
      two : (i j : ℕ) → before_of s a ≡ Some i → before_of s b ≡ Some j → (i < j) ⊎ ((i ≡ j) × (place_of s a < place_of s b))
          → ((x y : ℕ) → x < y → y < b → Precedes (path_at s x) (path_at s y)) → Precedes (path_at s a) (path_at s b)
      two i j e f (inl lower) so =
          let p : Precedes (path_at s i ++ place_of s a ∷ []) (path_at s j ++ place_of s b ∷ []) =
          precedes-more (path_at s i) (path_at s j) (place_of s a) (place_of s b) (so i j lower (w.is.next b j f).0) in
          subst (λ x. Precedes x (path_at s b)) (sym (at-next s down a i e)) (subst (Precedes (path_at s i ++ place_of s a ∷ [])) (sym (at-next s down b j f)) p)
      two i j e f (inr (same, less)) so =
          let p : Precedes (path_at s j ++ place_of s a ∷ []) (path_at s j ++ place_of s b ∷ []) =
          precedes-last (path_at s j) (place_of s a) (place_of s b) less in
          subst (λ x. Precedes x (path_at s b)) (sym (at-next s down a i e ∙ ap (λ n. path_at s n ++ place_of s a ∷ []) same))
          (subst (Precedes (path_at s j ++ place_of s a ∷ [])) (sym (at-next s down b j f)) p)

      one : (o p : Option ℕ) → before_of s a ≡ o → before_of s b ≡ p → IsRising o p (place_of s a) (place_of s b)
          → ((x y : ℕ) → x < y → y < b → Precedes (path_at s x) (path_at s y)) → Precedes (path_at s a) (path_at s b)
      one None None e f h so =
          let p : Precedes (place_of s a ∷ []) (place_of s b ∷ []) = precedes-last [] (place_of s a) (place_of s b) h in
          subst (λ x. Precedes x (path_at s b)) (sym (at-root s down a e)) (subst (Precedes (place_of s a ∷ [])) (sym (at-root s down b f)) p)
      one None (Some j) e f h so = inl (omega (arith, rooted a e, ap length (at-next s down b j f), longer (path_at s j) (place_of s b), some-place j))
      one (Some i) None e f h so = absurd h
      one (Some i) (Some j) e f h so = two i j e f h so

  -- a walk that goes on from a seat leads to a seat whose path is not after it
  step : (from to seat : ℕ) (q : List ℕ) → from < length s.order → AtMost (path_at s from) q → seat_of s to ≡ Some seat → IsEarly (before_of s seat) from
      → AtMost (path_at s seat) (q ++ to ∷ [])
  step from to seat q l h e early = one (before_of s seat) refl early
    where
      at : place_of s seat ≡ to
      at = (w.is.placed to seat e).1

      one : (o : Option ℕ) → before_of s seat ≡ o → IsEarly o from → AtMost (path_at s seat) (q ++ to ∷ [])
      one None f g = inl (inl (omega (arith, rooted seat f, longer q to, some-place from, at-most-length (path_at s from) q h)))
      one (Some before) f g = elim (cases_lt before from) [
        | inl lower ↦
            rw (at-next s down seat before f, at) (at-most-more (path_at s before) q to
            (precedes-at-most (path_at s before) (path_at s from) q (rise (suc from) before from lower l (omega arith)) h))
        | inr above ↦ (
            let same : before ≡ from = omega (arith, above, g) in
            rw (at-next s down seat before f, at, same) (at-most-more (path_at s from) q to h)
            )
      ]

  reach : (rest : List ℕ) (from target : ℕ) (q : List ℕ) → from < length s.order → AtMost (path_at s from) q → LeadsTo edges target (place_of s from ∷ rest)
      → (seat : ℕ) × (seat_of s target ≡ Some seat) × AtMost (path_at s seat) (q ++ rest)
  reach [] from target q l h leads =
      (from, ap (seat_of s) (sym leads) ∙ w.is.seated from l, subst (AtMost (path_at s from)) (sym (append-nil q)) h)
  reach (x ∷ rest) from target q l h leads =
      let there = w.all_edges from x l leads.0 in
      let at = w.is.placed x there.0 there.1 in
      let on = reach rest there.0 target (q ++ x ∷ []) at.0 (step from x there.0 q l h there.1 there.2)
      (subst (λ y. LeadsTo edges target (y ∷ rest)) (sym at.1) leads.1) in
      (on.0, on.1, subst (AtMost (path_at s on.0)) (append_assoc q (x ∷ []) rest) on.2)

  -- each path from a root leads to a seat whose path is not after it
  reached : (target : ℕ) (path : List ℕ) → IsPathTo edges roots target path → (seat : ℕ) × (seat_of s target ≡ Some seat) × AtMost (path_at s seat) path
  reached target [] p = absurd p.starts
  reached target (x ∷ rest) p =
      let root = w.all_roots x p.starts in
      let at = w.is.placed x root.0 root.1 in
      let alone : path_at s root.0 ≡ x ∷ [] = at-root s down root.0 root.2 ∙ ap (λ y. y ∷ []) at.1 in
      reach rest root.0 target (x ∷ []) at.0 (inr alone) (subst (λ y. LeadsTo edges target (y ∷ rest)) (sym at.1) p.leads)

  -- a path is one from a root
  is-path : (n seat : ℕ) → seat < n → seat < length s.order → IsPathTo edges roots (place_of s seat) (path_at s seat)
  is-path zero seat l k = absurd (omega (arith, l))
  is-path (suc n) seat l k =
      one (before_of s seat) refl (λ (before : ℕ) (lower : before < seat). is-path n before (omega (arith, lower, l)) (omega (arith, lower, k)))
    where
      one : (o : Option ℕ) → before_of s seat ≡ o → ((before : ℕ) → before < seat → IsPathTo edges roots (place_of s before) (path_at s before))
          → IsPathTo edges roots (place_of s seat) (path_at s seat)
      one None e there = subst (IsPathTo edges roots (place_of s seat)) (sym (at-root s down seat e)) (record { starts = w.is.first seat k e; leads = refl })
      one (Some before) e there =
          let next = w.is.next seat before e in
          let so = there before next.0 in
          subst (IsPathTo edges roots (place_of s seat)) (sym (at-next s down seat before e)) (record {
            starts = starts-more roots (path_at s before) (place_of s seat) so.starts;
            leads = leads-more edges (place_of s before) (place_of s seat) (path_at s before) so.leads next.1;
          })

  seat-is : (target a b : ℕ) → seat_of s target ≡ Some a → seat_of s target ≡ Some b → a ≡ b
  seat-is target a b e f = cc (sym e ∙ f)

  at-most : (target seat : ℕ) (path : List ℕ) → seat_of s target ≡ Some seat → IsPathTo edges roots target path → AtMost (path_at s seat) path
  at-most target seat path e p =
      let there = reached target path p in
      subst (λ n. AtMost (path_at s n) path) (seat-is target there.0 seat there.1 e) there.2

  is-first : (target seat : ℕ) → seat_of s target ≡ Some seat → IsFirst edges roots target (path_at s seat)
  is-first target seat e =
      let at = w.is.placed target seat e in
      let so = subst (λ t. IsPathTo edges roots t (path_at s seat)) at.1 (is-path (suc seat) seat (omega arith) at.0) in
      record {
        shortest = record {
          is_path = so;
          no_shorter = λ other p. at-most-length (path_at s seat) other (at-most target seat other e p);
        };
        none_before = λ other short. at-most-first (path_at s seat) other (at-most target seat other e short.is_path) (short.no_shorter (path_at s seat) so);
      }

  pub answer : (target : ℕ) → IsAnswer edges roots target (path_to s target)
  answer target = one (seat_of s target) refl
    where
      one : (o : Option ℕ) → seat_of s target ≡ o → IsAnswer edges roots target (option_map (path_at s) o)
      one None e = λ path p. (let there = reached target path p in cc (sym e ∙ there.1))
      one (Some seat) e = is-first target seat e

-- ---- an answer that is a path

pub is-reached : (edges : List (List ℕ)) (roots : List ℕ) (target : ℕ) (o : Option (List ℕ)) → IsAnswer edges roots target o → o ≢ None
    → (path : List ℕ) × IsPathTo edges roots target path
is-reached edges roots target None a h = absurd (h refl)
is-reached edges roots target (Some path) a h = (path, a.shortest.is_path)
