-- The last of some values that are kept, one value after another.
use Rattle.std.proofs.Common.{◌≡◌, Bool, true, false, List, [], ◌∷◌, ◌++◌, Option, Some, refl, ap, inl, inr}
use Rattle.std.proofs.lemmas.Bool.{cases_Bool}
use Rattle.std.specs.List.{filter}
use Rattle.rustsec_files.specs.Paths.{last, without_last}

pub last-push : {A : Type 0} (xs : List A) (x : A) → last (xs ++ x ∷ []) ≡ Some x
last-push [] x = refl
last-push (a ∷ []) x = refl
last-push (a ∷ b ∷ more) x = last-push (b ∷ more) x

pub without-last-push : {A : Type 0} (xs : List A) (x : A) → without_last (xs ++ x ∷ []) ≡ xs
without-last-push [] x = refl
without-last-push (a ∷ []) x = refl
without-last-push (a ∷ b ∷ more) x = ap (λ ys. a ∷ ys) (without-last-push (b ∷ more) x)

module _ {A : Type 0} (f : A → Bool) where
  pub filter-kept : (xs : List A) (x : A) → f x ≡ true → filter f (xs ++ x ∷ []) ≡ filter f xs ++ x ∷ []
  filter-kept [] x h = rw h refl
  filter-kept (a ∷ xs) x h = elim (cases_Bool (f a)) [
    | inl yes_a ↦ rw (yes_a, filter-kept xs x h) refl
    | inr no_a ↦ rw (no_a, filter-kept xs x h) refl
  ]

  pub filter-left : (xs : List A) (x : A) → f x ≡ false → filter f (xs ++ x ∷ []) ≡ filter f xs
  filter-left [] x h = rw h refl
  filter-left (a ∷ xs) x h = elim (cases_Bool (f a)) [
    | inl yes_a ↦ rw (yes_a, filter-left xs x h) refl
    | inr no_a ↦ rw (no_a, filter-left xs x h) refl
  ]

-- the last three values, one more value later
pub pushed : {A : Type 0} (kept : List A) (x : A) (file folder : Option A) → file ≡ last kept → folder ≡ last (without_last kept)
    → (Some x ≡ last (kept ++ x ∷ [])) × ((file ≡ last (without_last (kept ++ x ∷ []))) × (folder ≡ last (without_last (without_last (kept ++ x ∷ [])))))
pushed kept x file folder h k = rw (last-push kept x, without-last-push kept x) (refl, (h, k))
