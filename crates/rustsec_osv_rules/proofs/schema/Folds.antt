-- Loops that ask each element of a list, or go on after each.
use Rattle.std.proofs.Common.{◌≡◌, ℕ, ◌+◌, ◌<◌, ◌≤◌, ◌||◌, zero, suc, Bool, true, false, List, [], ◌∷◌, add-one, ap, arith, get_or, length, map, refl, subst, take}
use Rattle.std.proofs.lemmas.Bool.{and_from, and_parts, and_right, or_right}
use Rattle.std.proofs.lemmas.List.{take_all}
use Rattle.std.proofs.lemmas.List.Folds.{list_any_more}
use Rattle.std.specs.Cmp.Lexicographic.{pointwise}
use Rattle.std.specs.List.{list_any}

-- ---- one element that passes

module _ {X Y : Type 0} (h : X → Y) (p : Y → Bool) where
  any_map : (xs : List X) → list_any p (map h xs) ≡ list_any (λ x. p (h x)) xs
  any_map [] = refl
  any_map (x ∷ xs) = ap (λ b. p (h x) || b) (any_map xs)

  pub any_more : (xs : List X) (i : ℕ) (x : X) → i < length xs → x ≡ get_or xs i x → list_any p (map h (take i xs)) ≡ false → p (h x) ≡ false
      → list_any p (map h (take (i + 1) xs)) ≡ false
  any_more xs i x l at before e =
      rw (any_map (take (i + 1) xs), list_any_more (λ y. p (h y)) xs i x l, ← any_map (take i xs), before, ← at) e

  pub any_stop : (xs : List X) (i : ℕ) (x : X) → i < length xs → x ≡ get_or xs i x → p (h x) ≡ true → list_any p (map h xs) ≡ true
  any_stop [] i x l at e = absurd (omega arith)
  any_stop (y ∷ ys) zero x l at e = rw (← at, e)
  any_stop (y ∷ ys) (suc i) x l at e = or_right (p (h y)) _ (any_stop ys i x (omega arith) at e)

  -- the same with the element at its index
  pub any_at : (xs : List X) (i : ℕ) (d : X) → i < length xs → p (h (get_or xs i d)) ≡ true → list_any p (map h xs) ≡ true
  any_at [] i d l e = absurd (omega arith)
  any_at (y ∷ ys) zero d l e = rw e
  any_at (y ∷ ys) (suc i) d l e = or_right (p (h y)) _ (any_at ys i d (omega arith) e)

  pub any_end : (xs : List X) (i : ℕ) → length xs ≤ i → list_any p (map h (take i xs)) ≡ false → list_any p (map h xs) ≡ false
  any_end xs i l before = subst (λ ys. list_any p (map h ys) ≡ false) (take_all i xs l) before

-- ---- two texts, index by index

module _ (E : ℕ → ℕ → Bool) where
  shape_suc : (xs ys : List ℕ) (i : ℕ) → i < length xs → i < length ys → pointwise E (take i xs) (take i ys) ≡ true → E (get_or xs i 0) (get_or ys i 0) ≡ true
      → pointwise E (take (suc i) xs) (take (suc i) ys) ≡ true
  shape_suc [] ys i l m before e = absurd (omega arith)
  shape_suc (x ∷ xs) [] i l m before e = absurd (omega arith)
  shape_suc (x ∷ xs) (y ∷ ys) zero l m before e = rw e
  shape_suc (x ∷ xs) (y ∷ ys) (suc i) l m before e =
      let parts = and_parts (E x y) (pointwise E (take i xs) (take i ys)) before in
      and_from (E x y) _ parts.0 (shape_suc xs ys i (omega arith) (omega arith) parts.1 e)

  pub shape_more : (xs ys : List ℕ) (i : ℕ) → i < length xs → length xs ≡ length ys → pointwise E (take i xs) (take i ys) ≡ true
      → E (get_or xs i 0) (get_or ys i 0) ≡ true → pointwise E (take (i + 1) xs) (take (i + 1) ys) ≡ true
  shape_more xs ys i l same before e = rw (add-one i) (shape_suc xs ys i l (omega arith) before e)

  pub shape_stop : (xs ys : List ℕ) (i : ℕ) → i < length xs → E (get_or xs i 0) (get_or ys i 0) ≡ false → length xs ≡ length ys → pointwise E xs ys ≡ false
  shape_stop [] ys i l e same = absurd (omega arith)
  shape_stop (x ∷ xs) [] i l e same = refl
  shape_stop (x ∷ xs) (y ∷ ys) zero l e same = rw e
  shape_stop (x ∷ xs) (y ∷ ys) (suc i) l e same = and_right (E x y) _ (shape_stop xs ys i (omega arith) e (omega arith))

  pub shape_end : (xs ys : List ℕ) (i : ℕ) → length xs ≤ i → length xs ≡ length ys → pointwise E (take i xs) (take i ys) ≡ true → pointwise E xs ys ≡ true
  shape_end xs ys i l same before =
      subst (λ zs. pointwise E xs zs ≡ true) (take_all i ys (omega arith)) (subst (λ zs. pointwise E zs (take i ys) ≡ true) (take_all i xs l) before)

  pub shape_short : (xs ys : List ℕ) → length ys < length xs → pointwise E xs ys ≡ false
  shape_short [] ys l = absurd (omega arith)
  shape_short (x ∷ xs) [] l = refl
  shape_short (x ∷ xs) (y ∷ ys) l = and_right (E x y) _ (shape_short xs ys (omega arith))
