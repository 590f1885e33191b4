-- Loops that ask each part of a text between slashes.
use Rattle.std.proofs.Common.{◌≡◌, ◌&&◌, ◌++◌, List, [], ◌∷◌, Bool, true, false, ap, map, refl}
use Rattle.std.proofs.lemmas.Bool.{and_left, and_right}
use Rattle.std.specs.List.{list_all}

module _ {X Y : Type 0} (h : X → Y) (p : Y → Bool) where
  -- a part that passes changes nothing
  pub all_more : (xs : List X) (x : X) → p (h x) ≡ true → list_all p (map h (xs ++ x ∷ [])) ≡ list_all p (map h xs)
  all_more [] x e = rw e refl
  all_more (y ∷ ys) x e = ap (λ b. p (h y) && b) (all_more ys x e)

  pub all_stop : (xs : List X) (x : X) → p (h x) ≡ false → list_all p (map h (xs ++ x ∷ [])) ≡ false
  all_stop [] x e = and_left (p (h x)) _ e
  all_stop (y ∷ ys) x e = and_right (p (h y)) _ (all_stop ys x e)
