-- The elements of a list that was filtered, mapped or joined.
use Rattle.std.proofs.Common.{◌≡◌, ◌∙◌, ◌⊎◌, ◌<◌, ◌++◌, ℕ, zero, suc, Bool, true, false, cond, Contains, List, [], ◌∷◌, get_or, inl, inr, length, map, refl, sym, ap, subst, arith, ⊎_elim}
use Rattle.std.specs.List.{AllZip, filter, flat_map}

-- to be one of the elements, by recursion
abbrev pub Among : {X : Type 0} → List X → X → Type 0
Among [] y = ⊥
Among (x ∷ xs) y = (x ≡ y) ⊎ Among xs y

module _ {X : Type 0} where
  from-place : (xs : List X) (k : ℕ) (y : X) → k < length xs → get_or xs k y ≡ y → Among xs y
  from-place [] k y l is = absurd (omega (arith, l))
  from-place (x ∷ xs) zero y l is = inl is
  from-place (x ∷ xs) (suc k) y l is = inr (from-place xs k y (omega (arith, l)) is)

  pub among : (xs : List X) (y : X) → Contains xs y → Among xs y
  among xs y h = from-place xs h.0 y h.1 h.2

  pub contained : (xs : List X) (y : X) → Among xs y → Contains xs y
  contained [] y h = absurd h
  contained (x ∷ xs) y (inl is) = (0, omega arith, is)
  contained (x ∷ xs) y (inr h) = let c = contained xs y h in let l = c.1 in (suc c.0, omega (arith, l), c.2)

  -- in either of two lists
  pub of-either : (xs ys : List X) (y : X) → Among (xs ++ ys) y → Among xs y ⊎ Among ys y
  of-either [] ys y h = inr h
  of-either (x ∷ xs) ys y (inl is) = inl (inl is)
  of-either (x ∷ xs) ys y (inr h) = ⊎_elim (λ g. inl (inr g)) (λ g. inr g) (of-either xs ys y h)

  pub in-first : (xs ys : List X) (y : X) → Among xs y → Among (xs ++ ys) y
  in-first [] ys y h = absurd h
  in-first (x ∷ xs) ys y (inl is) = inl is
  in-first (x ∷ xs) ys y (inr h) = inr (in-first xs ys y h)

  pub in-second : (xs ys : List X) (y : X) → Among ys y → Among (xs ++ ys) y
  in-second [] ys y h = h
  in-second (x ∷ xs) ys y h = inr (in-second xs ys y h)

-- of those that pass a test
module _ {X : Type 0} (p : X → Bool) where
  passed-head : (x : X) (xs ys : List X) (b : Bool) (y : X) → p x ≡ b → (Among ys y → Among xs y × (p y ≡ true)) → Among (cond b (x ∷ ys) ys) y
      → Among (x ∷ xs) y × (p y ≡ true)
  passed-head x xs ys true y e rest (inl is) = (inl is, subst (λ z. p z ≡ true) is e)
  passed-head x xs ys true y e rest (inr h) = (inr (rest h).0, (rest h).1)
  passed-head x xs ys false y e rest h = (inr (rest h).0, (rest h).1)

  pub passed : (xs : List X) (y : X) → Among (filter p xs) y → Among xs y × (p y ≡ true)
  passed [] y h = absurd h
  passed (x ∷ xs) y h = passed-head x xs (filter p xs) (p x) y refl (passed xs y) h

  kept-head : (x : X) (ys : List X) (b : Bool) (y : X) → p x ≡ b → p y ≡ true → (x ≡ y) ⊎ Among ys y → Among (cond b (x ∷ ys) ys) y
  kept-head x ys true y e holds h = h
  kept-head x ys false y e holds (inl is) = absurd (cc (sym e ∙ (ap p is ∙ holds)))
  kept-head x ys false y e holds (inr h) = h

  pub kept : (xs : List X) (y : X) → Among xs y → p y ≡ true → Among (filter p xs) y
  kept [] y h holds = absurd h
  kept (x ∷ xs) y (inl is) holds = kept-head x (filter p xs) (p x) y refl holds (inl is)
  kept (x ∷ xs) y (inr h) holds = kept-head x (filter p xs) (p x) y refl holds (inr (kept xs y h holds))

-- of the images of all elements
module _ {X Y : Type 0} where
  pub made : (f : X → Y) (xs : List X) (x : X) → Among xs x → Among (map f xs) (f x)
  made f [] x h = absurd h
  made f (z ∷ xs) x (inl is) = inl (ap f is)
  made f (z ∷ xs) x (inr h) = inr (made f xs x h)

  pub maker : (f : X → Y) (xs : List X) (y : Y) → Among (map f xs) y → (x : X) × Among xs x × (f x ≡ y)
  maker f [] y h = absurd h
  maker f (z ∷ xs) y (inl is) = (z, inl refl, is)
  maker f (z ∷ xs) y (inr h) = let m = maker f xs y h in (m.0, inr m.1, m.2)

  pub joined : (f : X → List Y) (xs : List X) (x : X) (y : Y) → Among xs x → Among (f x) y → Among (flat_map f xs) y
  joined f [] x y h g = absurd h
  joined f (z ∷ xs) x y (inl is) g = in-first (f z) (flat_map f xs) y (subst (λ w. Among (f w) y) (sym is) g)
  joined f (z ∷ xs) x y (inr h) g = in-second (f z) (flat_map f xs) y (joined f xs x y h g)

  part-head : (f : X → List Y) (z : X) (xs : List X) (y : Y) → ((x : X) × Among xs x × Among (f x) y) → (x : X) × Among (z ∷ xs) x × Among (f x) y
  part-head f z xs y h = (h.0, inr h.1, h.2)

  pub part : (f : X → List Y) (xs : List X) (y : Y) → Among (flat_map f xs) y → (x : X) × Among xs x × Among (f x) y
  part f [] y h = absurd h
  part f (z ∷ xs) y h = ⊎_elim (λ g. (z, inl refl, g)) (λ g. part-head f z xs y (part f xs y g)) (of-either (f z) (flat_map f xs) y h)

  -- of two lists that are related place by place
  pub left-of : (R : X → Y → Type 0) (xs : List X) (ys : List Y) (y : Y) → AllZip R xs ys → Among ys y → (x : X) × Among xs x × R x y
  left-of R [] [] y z h = absurd h
  left-of R [] (w ∷ ys) y z h = absurd z
  left-of R (x ∷ xs) [] y z h = absurd z
  left-of R (x ∷ xs) (w ∷ ys) y z (inl is) = (x, inl refl, subst (R x) is z.0)
  left-of R (x ∷ xs) (w ∷ ys) y z (inr h) = let m = left-of R xs ys y z.1 h in (m.0, inr m.1, m.2)

  pub right-of : (R : X → Y → Type 0) (xs : List X) (ys : List Y) (x : X) → AllZip R xs ys → Among xs x → (y : Y) × Among ys y × R x y
  right-of R [] [] x z h = absurd h
  right-of R [] (w ∷ ys) x z h = absurd z
  right-of R (v ∷ xs) [] x z h = absurd z
  right-of R (v ∷ xs) (w ∷ ys) x z (inl is) = (w, inl refl, subst (λ u. R u w) is z.0)
  right-of R (v ∷ xs) (w ∷ ys) x z (inr h) = let m = right-of R xs ys x z.1 h in (m.0, inr m.1, m.2)
