-- Names have one order of their bytes.
use Rattle.std.proofs.Common.{◌≡◌, ◌<◌, ◌+◌, ℕ, zero, suc, Bool, true, false, cond, List, [], ◌∷◌, refl, sym, ap, ◌∙◌, arith, inl, inr, IsPermutation}
use Rattle.std.specs.Prelude.{nat_eq, sum_by}
use Rattle.std.specs.Cmp.Lexicographic.{bytes_decides, nat_list_cmp_total, pointwise, slice_cmp, texts_ties}
use Rattle.std.specs.List.Sorted.{IsSorted}
use Rattle.std.specs.Ordering.{eq_by_cmp, is_lt, nat_cmp, ordering_reverse}
use Rattle.std.specs.declared.cmp.Ordering.{Ordering}
use Rattle.std.specs.declared.cmp.Ordering.TheVariants.{Less, Equal, Greater}
use Rattle.std.proofs.lemmas.Bool.{cases_Bool}
use Rattle.std.proofs.lemmas.List.Sums.{sum_by-cons}
use Rattle.std.proofs.lemmas.List.Sorted.{ranks_by, sum_by-IsPermutation}
use Rattle.rustsec_files.specs.Names.{AreInOrder}

-- ---- the order of two names

-- a second name is not before a first one
abbrev IsAtMost : List ℕ → List ℕ → Type 0
IsAtMost x y = is_lt (slice_cmp nat_cmp y x) ≡ false

neither-less : (o r : Ordering) → o ≡ ordering_reverse r → is_lt o ≡ false → is_lt r ≡ false → o ≡ Equal
neither-less Less r e h k = cc h
neither-less Equal r e h k = refl
neither-less Greater Less e h k = cc k
neither-less Greater Equal e h k = cc e
neither-less Greater Greater e h k = cc e

eq-of-Equal : (x y : List ℕ) → slice_cmp nat_cmp x y ≡ Equal → pointwise nat_eq x y ≡ true
eq-of-Equal x y h = texts_ties x y ∙ rw h refl

at-most-both : (x y : List ℕ) → IsAtMost x y → IsAtMost y x → x ≡ y
at-most-both x y h k =
    (bytes_decides x y).0 (eq-of-Equal x y (neither-less (slice_cmp nat_cmp x y) (slice_cmp nat_cmp y x) (nat_list_cmp_total.antisymm x y) k h))

at-most-trans : (x y z : List ℕ) → IsAtMost x y → IsAtMost y z → IsAtMost x z
at-most-trans x y z h k = (ranks_by nat_list_cmp_total (λ (t : List ℕ). t)).chain z y x k h

at-most-self : (x : List ℕ) → IsAtMost x x
at-most-self x = elim (cases_Bool (is_lt (slice_cmp nat_cmp x x))) [
  | inl less ↦ cc (sym ((ranks_by nat_list_cmp_total (λ (t : List ℕ). t)).one_way x x less) ∙ less)
  | inr other ↦ other
]

-- ---- names in order, neighbour by neighbour

abbrev Rises : List (List ℕ) → Type 0
Rises [] = Unit {0}
Rises (x ∷ []) = Unit {0}
Rises (x ∷ y ∷ xs) = IsAtMost x y × Rises (y ∷ xs)

rises-from : (xs : List (List ℕ)) → IsSorted (slice_cmp nat_cmp) xs → Rises xs
rises-from [] s = tt
rises-from (x ∷ []) s = tt
rises-from (x ∷ y ∷ xs) s = (
  s 0 x (omega arith) (omega arith),
  rises-from (y ∷ xs) (λ k d low high. let e : suc k + 1 ≡ suc (k + 1) = omega arith in rw e at (s (suc k) d (omega arith) (omega arith))),
)

rises-tail : (x : List ℕ) (xs : List (List ℕ)) → Rises (x ∷ xs) → Rises xs
rises-tail x [] r = tt
rises-tail x (y ∷ xs) r = r.1

-- ---- how often a name occurs

abbrev one_if : List ℕ → List ℕ → ℕ
one_if c x = cond (pointwise nat_eq x c) 1 0

abbrev occurs : List ℕ → List (List ℕ) → ℕ
occurs c xs = sum_by (one_if c) xs

occurs-cons : (c x : List ℕ) (xs : List (List ℕ)) → occurs c (x ∷ xs) ≡ one_if c x + occurs c xs
occurs-cons c x xs = sum_by-cons (one_if c) x xs

one-self : (x : List ℕ) → one_if x x ≡ 1
one-self x = rw ((bytes_decides x x).1 refl) refl

-- what occurs among names in order is not before the first
occurs-above : (c x : List ℕ) (xs : List (List ℕ)) → Rises (x ∷ xs) → 0 < occurs c (x ∷ xs) → IsAtMost x c
occurs-above c x [] r h = elim (cases_Bool (pointwise nat_eq x c)) [
  | inl same ↦ rw ((bytes_decides x c).0 same) (at-most-self c)
  | inr other ↦ let here : one_if c x ≡ 0 = rw other refl in absurd (omega (arith, occurs-cons c x [], here, h))
]
occurs-above c x (y ∷ ys) r h = elim (cases_Bool (pointwise nat_eq x c)) [
  | inl same ↦ rw ((bytes_decides x c).0 same) (at-most-self c)
  | inr other ↦
      let here : one_if c x ≡ 0 = rw other refl in
      at-most-trans x y c r.0 (occurs-above c y ys r.1 (omega (arith, occurs-cons c x (y ∷ ys), here, h)))
]

same-counts : (xs ys : List (List ℕ)) → Rises xs → Rises ys → ((c : List ℕ) → occurs c xs ≡ occurs c ys) → xs ≡ ys
same-counts [] [] r s h = refl
same-counts [] (y ∷ ys) r s h = absurd (omega (arith, h y, occurs-cons y y ys, one-self y))
same-counts (x ∷ xs) [] r s h = absurd (omega (arith, h x, occurs-cons x x xs, one-self x))
same-counts (x ∷ xs) (y ∷ ys) r s h =
    let low = occurs-above x y ys s (omega (arith, h x, occurs-cons x x xs, one-self x)) in
    let high = occurs-above y x xs r (omega (arith, h y, occurs-cons y y ys, one-self y)) in
    let first = at-most-both x y high low in
    let rest = same-counts xs ys (rises-tail x xs r) (rises-tail y ys s)
    (λ c. let e : one_if c x ≡ one_if c y = ap (one_if c) first in omega (arith, h c, occurs-cons c x xs, occurs-cons c y ys, e)) in
    λ i. first i ∷ rest i

-- the same names in order are one list
pub in-order-once : (names xs ys : List (List ℕ)) → AreInOrder names xs → AreInOrder names ys → xs ≡ ys
in-order-once names xs ys h k =
    same-counts xs ys (rises-from xs h.rise) (rises-from ys k.rise)
    (λ c. sum_by-IsPermutation (one_if c) names xs h.same ∙ sym (sum_by-IsPermutation (one_if c) names ys k.same))
