-- Cuts of a text at the first place of a mark.
use Rattle.std.proofs.Common.{◌≡◌, ◌∙◌, ◌||◌, ◌+◌, ℕ, suc, arith, Bool, true, false, not, List, [], ◌∷◌, cond, take, ap, refl}
use Rattle.std.specs.List.{before_first, position_or_len}

before-step : (b : Bool) (n x : ℕ) (xs : List ℕ) → take (cond (not b) (1 + n) 0) (x ∷ xs) ≡ cond b [] (x ∷ take n xs)
before-step true n x xs = refl
before-step false n x xs = let e : 1 + n ≡ suc n = omega arith in rw e refl

before-more : (p : ℕ → Bool) (x : ℕ) (xs : List ℕ) → before_first p (x ∷ xs) ≡ cond (p x) [] (x ∷ before_first p xs)
before-more p x xs = before-step (p x) (position_or_len p xs) x xs

before-both : (s : Bool) (q : ℕ → Bool) (x : ℕ) (us ws : List ℕ) → before_first q us ≡ ws
    → before_first q (cond s [] (x ∷ us)) ≡ cond (s || q x) [] (x ∷ ws)
before-both true q x us ws h = refl
before-both false q x us ws h = before-more q x us ∙ ap (λ (ys : List ℕ). cond (q x) [] (x ∷ ys)) h

-- two cuts, each at its own mark, are one cut at the first of either
pub before-twice : (p q : ℕ → Bool) (xs : List ℕ) → before_first q (before_first p xs) ≡ before_first (λ b. p b || q b) xs
before-twice p q [] = refl
before-twice p q (x ∷ xs) =
    rw (before-more p x xs, before-more (λ b. p b || q b) x xs) (before-both (p x) q x (before_first p xs) _ (before-twice p q xs))
