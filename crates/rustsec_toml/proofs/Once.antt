-- A text has one list of places of packages.
use Rattle.std.proofs.Common.{◌≡◌, ◌∙◌, ◌+◌, ◌<◌, ◌↔◌, ℕ, zero, suc, List, [], ◌∷◌, ap, arith, get_or, inl, inr, map, refl, subst, sym, Contains}
use Rattle.std.specs.Prelude.{◌⊎◌}
use Rattle.std.proofs.lemmas.List.Kept.{AllPairs-from_increasing}
use Rattle.std.specs.List.Sorted.{IsStrictlyIncreasing}
use Rattle.rustsec_toml.specs.Places.{ArePackages, from_token, place_past, up_to}
use Rattle.rustsec_toml.specs.declared.place.Place.{Place}

-- ---- numbers that rise

at-first : (x : ℕ) (xs : List ℕ) → Contains (x ∷ xs) x
at-first x xs = (0, omega arith, refl)

later : (x : ℕ) (xs : List ℕ) (n : ℕ) → Contains xs n → Contains (x ∷ xs) n
later x xs n (k, l, e) = (suc k, omega (arith, l), e)

first-or-later : (x : ℕ) (xs : List ℕ) (n : ℕ) → Contains (x ∷ xs) n → (x ≡ n) ⊎ Contains xs n
first-or-later x xs n (zero, l, e) = inl e
first-or-later x xs n (suc k, l, e) = inr (k, omega (arith, l), e)

later-rise : (x : ℕ) (xs : List ℕ) → IsStrictlyIncreasing (x ∷ xs) → IsStrictlyIncreasing xs
later-rise x xs h k l =
    let next : suc k + 1 ≡ suc (k + 1) = omega arith in
    subst (λ i. get_or xs k 0 < get_or (x ∷ xs) i 0) next (h (suc k) (omega (arith, l)))

-- the first number is below each later one
first-below : (x : ℕ) (xs : List ℕ) (n : ℕ) → IsStrictlyIncreasing (x ∷ xs) → Contains xs n → x < n
first-below x xs n h (k, l, e) = subst (λ m. x < m) e (AllPairs-from_increasing (x ∷ xs) h 0 (suc k) n (omega arith) (omega (arith, l)))

first-same : (x y : ℕ) (xs ys : List ℕ) → IsStrictlyIncreasing (x ∷ xs) → IsStrictlyIncreasing (y ∷ ys)
    → ((n : ℕ) → Contains (x ∷ xs) n ↔ Contains (y ∷ ys) n) → x ≡ y
first-same x y xs ys h k same = elim (first-or-later y ys x ((same x).0 (at-first x xs))) [
  | inl e ↦ sym e
  | inr c ↦
      elim (first-or-later x xs y ((same y).1 (at-first y ys))) [
        | inl e ↦ e
        | inr d ↦ absurd (omega (arith, first-below x xs y h d, first-below y ys x k c))
      ]
]

later-within : (x : ℕ) (xs ys : List ℕ) → IsStrictlyIncreasing (x ∷ xs) → ((n : ℕ) → Contains (x ∷ xs) n → Contains (x ∷ ys) n)
    → (n : ℕ) → Contains xs n → Contains ys n
later-within x xs ys h within n c = elim (first-or-later x ys n (within n (later x xs n c))) [
  | inl e ↦ absurd (omega (arith, e, first-below x xs n h c))
  | inr d ↦ d
]

-- lists of numbers that rise and have the same members are the same
same-numbers : (xs ys : List ℕ) → IsStrictlyIncreasing xs → IsStrictlyIncreasing ys → ((n : ℕ) → Contains xs n ↔ Contains ys n) → xs ≡ ys
same-numbers [] [] h k same = refl
same-numbers [] (y ∷ ys) h k same = let (i, l, e) = (same y).1 (at-first y ys) in absurd (omega (arith, l))
same-numbers (x ∷ xs) [] h k same = let (i, l, e) = (same x).0 (at-first x xs) in absurd (omega (arith, l))
same-numbers (x ∷ xs) (y ∷ ys) h k same =
    let first : y ≡ x = sym (first-same x y xs ys h k same) in
    let rise : IsStrictlyIncreasing (x ∷ ys) = subst (λ z. IsStrictlyIncreasing (z ∷ ys)) first k in
    let both = subst (λ z. (n : ℕ) → Contains (x ∷ xs) n ↔ Contains (z ∷ ys) n) first same in
    let rest = same-numbers xs ys (later-rise x xs h) (later-rise x ys rise)
    (λ n. (later-within x xs ys h (λ m. (both m).0) n, later-within x ys xs rise (λ m. (both m).1) n)) in
    ap (λ zs. x ∷ zs) rest ∙ ap (λ z. z ∷ ys) (sym first)

-- ---- the places

pub packages-once : (text : List ℕ) (ps qs : List Place) → ArePackages text ps → ArePackages text qs → ps ≡ qs
packages-once text ps qs a b =
    let same = same-numbers a.tokens b.tokens a.rising b.rising (λ n. (λ h. (b.all n).1 ((a.all n).0 h), λ h. (a.all n).1 ((b.all n).0 h))) in
    a.shown ∙ (ap (map (λ n. place_past (up_to (from_token text n) text))) same ∙ sym b.shown)
