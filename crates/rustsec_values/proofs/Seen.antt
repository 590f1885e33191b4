-- Lists whose elements are seen by a function: if the images rise or have no repeats, so do the elements.
use Rattle.std.proofs.Common.{◌≡◌, ◌∙◌, Bool, true, false, cond, List, [], ◌∷◌, Ordering, Less, map, refl}
use Rattle.std.specs.List.{AllByRecursion, dedup, dedup_from}
use Rattle.std.specs.List.Sorted.{IsStrictlySortedBy}

module _ {A B : Type 0} (f : A → B) where
  all-map : (P : B → Type 0) (xs : List A) → AllByRecursion (λ x. P (f x)) xs → AllByRecursion P (map f xs)
  all-map P [] h = tt
  all-map P (x ∷ xs) h = (h.0, all-map P xs h.1)

  -- a list that rises by the images of its elements has rising images
  pub rise-map : (R : B → B → Ordering) (xs : List A) → IsStrictlySortedBy (λ x y. R (f x) (f y)) xs → IsStrictlySortedBy R (map f xs)
  unfolding IsStrictlySortedBy
  rise-map R [] h = tt
  rise-map R (x ∷ xs) h = (all-map (λ y. R (f x) y ≡ Less) xs h.0, rise-map R xs h.1)

  either-map : (b : Bool) (us vs : List A) → map f (cond b us vs) ≡ cond b (map f us) (map f vs)
  either-map true us vs = refl
  either-map false us vs = refl

  dedup_from-map : (E : B → B → Bool) (k : A) (xs : List A) → map f (dedup_from (λ x y. E (f x) (f y)) k xs) ≡ dedup_from E (f k) (map f xs)
  dedup_from-map E k [] = refl
  dedup_from-map E k (x ∷ xs) =
      either-map (E (f x) (f k)) _ _ ∙ rw (dedup_from-map E k xs, dedup_from-map E x xs) refl

  pub dedup-map : (E : B → B → Bool) (xs : List A) → map f (dedup (λ x y. E (f x) (f y)) xs) ≡ dedup E (map f xs)
  dedup-map E [] = refl
  dedup-map E (x ∷ xs) = dedup_from-map E x xs
