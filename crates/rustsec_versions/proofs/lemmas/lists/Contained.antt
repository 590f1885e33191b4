-- Elements of a list: the first one and those of the rest.
use Rattle.std.proofs.Common.{◌≡◌, ◌⊎◌, ◌<◌, ℕ, Bool, true, zero, suc, List, [], ◌∷◌, length, get_or, map, refl, sym, ap, subst, arith, inl, inr}
use Rattle.std.specs.Prelude.{Contains}
use Rattle.std.specs.List.{list_any}
use Rattle.std.proofs.lemmas.List.Folds.{list_any_at}

module _ {X : Type 0} where
  -- the empty list has no element
  pub contains-nil : (x : X) → Contains [] x → ⊥
  contains-nil x c = let low = c.1 in absurd (omega (arith, low))

  -- a list contains its first element
  pub contains-here : (x : X) (xs : List X) → Contains (x ∷ xs) x
  contains-here x xs = (0, omega arith, refl)

  -- a list contains the elements of its rest
  pub contains-there : (x y : X) (ys : List X) → Contains ys x → Contains (y ∷ ys) x
  contains-there x y ys c = let low = c.1 in (suc c.0, omega (arith, low), c.2)

  contains-at : (x y : X) (ys : List X) (k : ℕ) → k < length (y ∷ ys) → get_or (y ∷ ys) k x ≡ x → (y ≡ x) ⊎ Contains ys x
  contains-at x y ys zero low e = inl e
  contains-at x y ys (suc k) low e = inr (k, omega (arith, low), e)

  -- an element is the first one or an element of the rest
  pub contains-cases : (x y : X) (ys : List X) → Contains (y ∷ ys) x → (y ≡ x) ⊎ Contains ys x
  contains-cases x y ys c = contains-at x y ys c.0 c.1 c.2

  -- if an element passes a test, some element passes it
  pub any-contained : (test : X → Bool) (xs : List X) (x : X) → Contains xs x → test x ≡ true → list_any test xs ≡ true
  any-contained test xs x c h = list_any_at test xs c.0 x c.1 (subst (λ (y : X). test y ≡ true) (sym c.2) h)

module _ {X Y : Type 0} (f : X → Y) where
  -- an element of a mapped list is the image of an element
  pub contains-from_map : (xs : List X) (y : Y) → Contains (map f xs) y → (x : X) × (Contains xs x × (f x ≡ y))
  contains-from_map [] y c = absurd (contains-nil y c)
  contains-from_map (x ∷ xs) y c = elim (contains-cases y (f x) (map f xs) c) [
    | inl here ↦ (x, (contains-here x xs, here))
    | inr later ↦ let (z, (at, is)) = contains-from_map xs y later in (z, (contains-there z x xs at, is))
  ]

  pub contains-map : (xs : List X) (x : X) → Contains xs x → Contains (map f xs) (f x)
  contains-map [] x c = absurd (contains-nil x c)
  contains-map (z ∷ xs) x c = elim (contains-cases x z xs c) [
    | inl here ↦ (0, omega arith, ap f here)
    | inr later ↦ contains-there (f x) (f z) (map f xs) (contains-map xs x later)
  ]
