-- Tests on the values of a list.
use Rattle.std.proofs.Common.{◌≡◌, ◌||◌, Bool, true, false, cond, List, [], ◌∷◌, ap, arith, length, map, refl}
use Rattle.std.specs.List.{filter, list_any}

pub any_map : {A B : Type 0} (p : B → Bool) (g : A → B) (xs : List A) → list_any (λ x. p (g x)) xs ≡ list_any p (map g xs)
any_map p g [] = refl
any_map p g (x ∷ xs) = ap (λ b. p (g x) || b) (any_map p g xs)

one_kept : {A B : Type 0} (b : Bool) (x : A) (y : B) (xs : List A) (ys : List B) → length xs ≡ length ys
    → length (cond b (x ∷ xs) xs) ≡ length (cond b (y ∷ ys) ys)
one_kept true x y xs ys h = omega (arith, h)
one_kept false x y xs ys h = h

pub kept_map : {A B : Type 0} (p : B → Bool) (g : A → B) (xs : List A) → length (filter (λ x. p (g x)) xs) ≡ length (filter p (map g xs))
kept_map p g [] = refl
kept_map p g (x ∷ xs) = one_kept (p (g x)) x (g x) (filter (λ x. p (g x)) xs) (filter p (map g xs)) (kept_map p g xs)
