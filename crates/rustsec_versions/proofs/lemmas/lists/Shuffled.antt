-- Lists with the same elements in another order, by exchanges of neighbours.
use Rattle.std.proofs.Common.{◌<◌, ℕ, zero, suc, List, [], ◌∷◌, Option, Some, None, length, get_or, arith, IsPermutation}
use Rattle.std.specs.Prelude.{filter_map, slice_set, swap}
use Rattle.std.specs.List.{cons_option}
use Rattle.std.proofs.lemmas.List.Sorted.{IsPermutation-cons, IsPermutation-keeps, IsPermutation-middle, IsPermutation-refl, IsPermutation-trans}

pub data Shuffled {X : Type 0} : List X → List X → Type 0 where
  same : (xs : List X) → Shuffled xs xs
  keep : (x : X) {xs ys : List X} → Shuffled xs ys → Shuffled (x ∷ xs) (x ∷ ys)
  turn : (x y : X) (xs : List X) → Shuffled (x ∷ y ∷ xs) (y ∷ x ∷ xs)
  both : {xs ys zs : List X} → Shuffled xs ys → Shuffled ys zs → Shuffled xs zs

module _ {X : Type 0} where
  -- the first element and a later one change places
  exchanged : (x d : X) (xs : List X) (j : ℕ) → j < length xs → Shuffled (x ∷ xs) (get_or xs j d ∷ slice_set xs j x)
  exchanged x d [] j h = absurd (omega arith)
  exchanged x d (y ∷ ys) zero h = turn x y ys
  exchanged x d (y ∷ ys) (suc j) h = both (turn x y ys) (both (keep y (exchanged x d ys j (omega arith))) (turn y (get_or ys j d) (slice_set ys j x)))

  exchanged_back : (x d : X) (xs : List X) (j : ℕ) → j < length xs → Shuffled (x ∷ xs) (slice_set (get_or xs j d ∷ xs) (suc j) x)
  exchanged_back x d xs j h = exchanged x d xs j h

  -- two elements change places
  moved : (d : X) (xs : List X) (i j : ℕ) → i < length xs → j < length xs → Shuffled xs (slice_set (slice_set xs i (get_or xs j d)) j (get_or xs i d))
  moved d [] i j h k = absurd (omega arith)
  moved d (x ∷ xs) zero zero h k = same (x ∷ xs)
  moved d (x ∷ xs) zero (suc j) h k = exchanged x d xs j (omega arith)
  moved d (x ∷ xs) (suc i) zero h k = exchanged x d xs i (omega arith)
  moved d (x ∷ xs) (suc i) (suc j) h k = keep x (moved d xs i j (omega arith) (omega arith))

  swapped : (xs : List X) (i j : ℕ) → i < length xs → j < length xs → Shuffled xs (swap xs i j)
  swapped [] i j h k = same []
  swapped (x ∷ xs) i j h k = moved x (x ∷ xs) i j h k

  -- every permutation is made so
  pub shuffled : (xs ys : List X) → IsPermutation xs ys → Shuffled xs ys
  shuffled xs ys p = IsPermutation-keeps xs (λ l. Shuffled xs l) (same xs) (λ l i j h k s. both s (swapped l i j h k)) ys p

  pub permuted : {xs ys : List X} → Shuffled xs ys → IsPermutation xs ys
  permuted (same xs) = IsPermutation-refl xs
  permuted (keep x s) = IsPermutation-cons x _ _ (permuted s)
  permuted (turn x y xs) = IsPermutation-middle (x ∷ []) y xs
  permuted (both s t) = IsPermutation-trans _ _ _ (permuted s) (permuted t)

module _ {X Y : Type 0} (f : X → Option Y) where
  turned_options : (o u : Option Y) (ys : List Y) → Shuffled (cons_option o (cons_option u ys)) (cons_option u (cons_option o ys))
  turned_options None None ys = same ys
  turned_options None (Some u) ys = same (u ∷ ys)
  turned_options (Some o) None ys = same (o ∷ ys)
  turned_options (Some o) (Some u) ys = turn o u ys

  kept_option : (o : Option Y) {ys zs : List Y} → Shuffled ys zs → Shuffled (cons_option o ys) (cons_option o zs)
  kept_option None s = s
  kept_option (Some y) s = keep y s

  -- what a function gives of the elements is shuffled too
  pub filter_map-shuffled : {xs ys : List X} → Shuffled xs ys → Shuffled (filter_map f xs) (filter_map f ys)
  filter_map-shuffled (same xs) = same (filter_map f xs)
  filter_map-shuffled (keep x s) = kept_option (f x) (filter_map-shuffled s)
  filter_map-shuffled (turn x y xs) = turned_options (f x) (f y) (filter_map f xs)
  filter_map-shuffled (both s t) = both (filter_map-shuffled s) (filter_map-shuffled t)

  pub IsPermutation-filter_map : (xs ys : List X) → IsPermutation xs ys → IsPermutation (filter_map f xs) (filter_map f ys)
  IsPermutation-filter_map xs ys p = permuted (filter_map-shuffled (shuffled xs ys p))
