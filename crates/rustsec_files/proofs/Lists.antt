-- Lists that are related place by place, and what one element more does.
use Rattle.std.proofs.Common.{◌≡◌, ◌∙◌, ◌+◌, ◌<◌, ◌++◌, ℕ, zero, suc, Bool, true, false, List, [], ◌∷◌, arith, cond, get_or, length, take, sym, ap}
use Rattle.std.specs.Prelude.{Contains, filter, flat_map}
use Rattle.std.proofs.lemmas.Grind.{flat_map-append}
use Rattle.std.proofs.lemmas.List.{append-nil, take_more}
use Rattle.rustsec_files.specs.Listed.{Pairwise}

module _ {A B : Type 0} where
  pub pairwise-weaker : (R S : A → B → Type 0) → ((x : A) (y : B) → R x y → S x y) → (xs : List A) (ys : List B) → Pairwise R xs ys → Pairwise S xs ys
  pairwise-weaker R S f [] [] h = tt
  pairwise-weaker R S f (x ∷ xs) (y ∷ ys) h = (f x y h.0, pairwise-weaker R S f xs ys h.1)
  pairwise-weaker R S f [] (y ∷ ys) h = absurd h
  pairwise-weaker R S f (x ∷ xs) [] h = absurd h

  pub pairwise-push : (R : A → B → Type 0) (xs : List A) (ys : List B) (x : A) (y : B) → Pairwise R xs ys → R x y → Pairwise R (xs ++ x ∷ []) (ys ++ y ∷ [])
  pairwise-push R [] [] x y h new = (new, tt)
  pairwise-push R (a ∷ xs) (b ∷ ys) x y h new = (h.0, pairwise-push R xs ys x y h.1 new)
  pairwise-push R [] (b ∷ ys) x y h new = absurd h
  pairwise-push R (a ∷ xs) [] x y h new = absurd h

  -- one place more of a list that is gone through
  pub pairwise-step : (R : A → B → Type 0) (xs : List A) (ys : List B) (i : ℕ) (x : A) (y : B) → i < length xs → x ≡ get_or xs i x
      → Pairwise R (take i xs) ys → R x y → Pairwise R (take (i + 1) xs) (ys ++ y ∷ [])
  pairwise-step R xs ys i x y l is h new =
      rw (take_more xs i x l, ← is) (pairwise-push R (take i xs) ys x y h new)

pub contains-item : {A : Type 0} (xs : List A) (i : ℕ) (x : A) → i < length xs → x ≡ get_or xs i x → Contains xs x
contains-item xs i x l is = (i, l, sym is)

-- parts joined end to end, and one part more
pub joined-push : {A : Type 0} (all : List A) (parts : List (List A)) (part : List A) → all ≡ flat_map (λ p. p) parts
    → all ++ part ≡ flat_map (λ p. p) (parts ++ part ∷ [])
joined-push all parts part is =
    ap (λ xs. xs ++ part) is ∙ (ap (λ xs. flat_map (λ p. p) parts ++ xs) (sym (append-nil part)) ∙ sym (flat_map-append (λ p. p) parts (part ∷ [])))

longer : {A : Type 0} (b : Bool) (x : A) (xs : List A) → 0 < length xs → 0 < length (cond b (x ∷ xs) xs)
longer true x xs h = omega arith
longer false x xs h = h

-- a list with an element that is kept, at this place, is not empty after the others are left out
pub filter-some : {A : Type 0} (p : A → Bool) (xs : List A) (i : ℕ) (x : A) → i < length xs → x ≡ get_or xs i x → p x ≡ true → 0 < length (filter p xs)
filter-some p [] i x l is h = absurd (omega (arith, l))
filter-some p (y ∷ ys) zero x l is h = rw (ap p (sym is) ∙ h) (omega arith)
filter-some p (y ∷ ys) (suc i) x l is h =
    let later : i < length ys = omega (arith, l) in
    longer (p y) y (filter p ys) (filter-some p ys i x later is h)
