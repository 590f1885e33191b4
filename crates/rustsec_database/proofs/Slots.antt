-- Inserting a slot into rising ones.
use Rattle.std.proofs.Common.{◌≡◌, ◌<◌, ◌≤◌, ◌++◌, ℕ, zero, suc, Bool, true, false, cond, List, [], ◌∷◌, Some, Ok, Err, ltb, eqb, get_or, length, refl, subst, sym, ap, ⊎_elim, arith}
use Rattle.std.specs.List.Sorted.{IsBinarySearchResult}
use Rattle.std.specs.Ordering.{nat_cmp}
use Rattle.std.proofs.lemmas.Bool.{cases_lt}
use Rattle.std.proofs.lemmas.List.Sorted.{searched}
use Rattle.std.specs.List.{All, insert, list_any}
use Rattle.std.proofs.lemmas.List.Elements.{All-cons, All-head, All-tail}
use Rattle.std.proofs.lemmas.List.Folds.{list_any_at}
use Rattle.std.proofs.lemmas.List.Kept.{AllPairs-cons}
use Rattle.rustsec_database.specs.Slots.{Rises, where_any, with_slot}

below-false : (m n : ℕ) → m < n → ltb n m ≡ false
below-false m n h = grind arith

apart-false : (m n : ℕ) → m < n → eqb n m ≡ false
apart-false m n h = grind arith

above-false : (m n : ℕ) → m < n → eqb m n ≡ false
above-false m n h = grind arith

below-true : (m n : ℕ) → m < n → ltb m n ≡ true
below-true m n h = grind arith

itself-false : (n : ℕ) → ltb n n ≡ false
itself-false n = grind arith

itself-true : (n : ℕ) → eqb n n ≡ true
itself-true n = grind arith

-- a slot that is inserted between those below and those above it
pub insert-is : (xs : List ℕ) (i n : ℕ) → i ≤ length xs → ((k : ℕ) → k < i → get_or xs k 0 < n)
    → ((k : ℕ) → i ≤ k → k < length xs → n < get_or xs k 0) → insert xs i n ≡ with_slot n xs
insert-is [] zero n le below above = refl
insert-is [] (suc i) n le below above = absurd (omega (arith, le))
insert-is (x ∷ xs) zero n le below above = rw (below-true n x (above 0 (omega arith) (omega arith))) refl
insert-is (x ∷ xs) (suc i) n le below above =
    let first : x < n = below 0 (omega arith) in
    rw (below-false x n first, apart-false x n first)
    (ap (λ ys. x ∷ ys) (insert-is xs i n (omega (arith, le)) (λ k l. below (suc k) (omega (arith, l)))
    (λ k l m. above (suc k) (omega (arith, l)) (omega (arith, m)))))

-- a slot is not in a list if those before a place are below it and the others above it
pub lacks : (xs : List ℕ) (i n : ℕ) → ((k : ℕ) → k < i → get_or xs k 0 < n) → ((k : ℕ) → i ≤ k → k < length xs → n < get_or xs k 0)
    → list_any (eqb n) xs ≡ false
lacks [] i n below above = refl
lacks (x ∷ xs) zero n below above =
    rw (above-false n x (above 0 (omega arith) (omega arith))) (lacks xs zero n (λ k l. absurd (omega (arith, l))) (λ k l m. above (suc k) (omega arith) (omega (arith, m))))
lacks (x ∷ xs) (suc i) n below above =
    rw (apart-false x n (below 0 (omega arith)))
    (lacks xs i n (λ k l. below (suc k) (omega (arith, l))) (λ k l m. above (suc k) (omega (arith, l)) (omega (arith, m))))

rises-rest : (x : ℕ) (xs : List ℕ) → Rises (x ∷ xs) → Rises xs
rises-rest x xs h = λ i j d l m. h (suc i) (suc j) d (omega (arith, l)) (omega (arith, m))

-- a slot that is there already is not inserted
pub with_slot-there : (xs : List ℕ) (i n : ℕ) → Rises xs → i < length xs → get_or xs i 0 ≡ n → with_slot n xs ≡ xs
with_slot-there [] i n rising l is = absurd (omega (arith, l))
with_slot-there (x ∷ xs) zero n rising l is = rw (sym is) (rw (itself-false x, itself-true x) refl)
with_slot-there (x ∷ xs) (suc i) n rising l is =
    let first : x < get_or xs i 0 = rising 0 (suc i) 0 (omega arith) l in
    let below : x < n = omega (arith, first, is) in
    rw (below-false x n below, apart-false x n below)
    (ap (λ ys. x ∷ ys) (with_slot-there xs i n (rises-rest x xs rising) (omega (arith, l)) is))

by-test : {A : Type 0} (P : A → Type 0) (b : Bool) (u v : A) → (b ≡ true → P u) → (b ≡ false → P v) → P (cond b u v)
by-test P true = λ u v here there. here refl
by-test P false = λ u v here there. there refl

-- a slot below some slots and below one more is below all of them
above-with : (m n : ℕ) (xs : List ℕ) → m < n → All (λ x. m < x) xs → All (λ x. m < x) (with_slot n xs)
above-with m n [] l h = All-cons (λ x. m < x) n [] l h
above-with m n (x ∷ xs) l h =
    by-test (All (λ y. m < y)) (ltb n x) _ _ (λ t. All-cons (λ y. m < y) n (x ∷ xs) l h)
    (λ f. by-test (All (λ y. m < y)) (eqb n x) _ _ (λ t. h)
    (λ f. All-cons (λ y. m < y) x (with_slot n xs) (All-head (λ y. m < y) x xs h) (above-with m n xs l (All-tail (λ y. m < y) x xs h))))

rises-firsts : (x : ℕ) (xs : List ℕ) → Rises (x ∷ xs) → All (λ y. x < y) xs
rises-firsts x xs h = λ k d l. h 0 (suc k) d (omega arith) (omega (arith, l))

below-all : (n x : ℕ) (xs : List ℕ) → n < x → All (λ y. x < y) xs → All (λ y. n < y) xs
below-all n x xs l h = λ k d m. omega (arith, l, h k d m)

below-test : (n x : ℕ) → ltb n x ≡ true → n < x
below-test n x h = grind arith

above-tests : (n x : ℕ) → ltb n x ≡ false → eqb n x ≡ false → x < n
above-tests n x h k = grind arith

pub rises-with : (n : ℕ) (xs : List ℕ) → Rises xs → Rises (with_slot n xs)
rises-with n [] h = AllPairs-cons (λ x y. x < y) n [] (λ k d l. absurd (omega (arith, l))) h
rises-with n (x ∷ xs) h =
    let firsts = rises-firsts x xs h in
    by-test Rises (ltb n x) _ _
    (λ t. let l = below-test n x t in
    AllPairs-cons (λ x y. x < y) n (x ∷ xs) (All-cons (λ y. n < y) x xs l (below-all n x xs l firsts)) h)
    (λ f. by-test Rises (eqb n x) _ _ (λ t. h)
    (λ g. AllPairs-cons (λ x y. x < y) x (with_slot n xs) (above-with x n xs (above-tests n x f g) firsts) (rises-with n xs (rises-rest x xs h))))

-- a slot above all others is inserted at the end
pub with_slot-last : (xs : List ℕ) (n : ℕ) → All (λ x. x < n) xs → with_slot n xs ≡ xs ++ n ∷ []
with_slot-last [] n h = refl
with_slot-last (x ∷ xs) n h =
    let l : x < n = All-head (λ y. y < n) x xs h in
    rw (below-false x n l, apart-false x n l) (ap (λ ys. x ∷ ys) (with_slot-last xs n (All-tail (λ y. y < n) x xs h)))

pub with_slot-some : (n : ℕ) (xs : List ℕ) → 0 < length (with_slot n xs)
with_slot-some n [] = omega arith
with_slot-some n (x ∷ xs) =
    by-test (λ ys. 0 < length ys) (ltb n x) _ _ (λ t. omega arith)
    (λ f. by-test (λ ys. 0 < length ys) (eqb n x) _ _ (λ t. omega arith) (λ f. omega arith))

rises-le : (xs : List ℕ) → Rises xs → (i j : ℕ) → i ≤ j → j < length xs → get_or xs i 0 ≤ get_or xs j 0
rises-le xs h i j l m =
    ⊎_elim (λ (b : i < j). let up = h i j 0 b m in omega (arith, up))
    (λ (g : j ≤ i). let same : i ≡ j = omega (arith, l, g) in let e = ap (λ k. get_or xs k 0) same in omega (arith, e)) (cases_lt i j)

-- a search among rising slots that succeeds has found the slot
pub found-there : (ys xs : List ℕ) (n i : ℕ) → ys ≡ xs → Rises xs → IsBinarySearchResult (λ y. nat_cmp y n) ys (Ok i) → (i < length xs) × (get_or xs i 0 ≡ n)
found-there ys xs n i same rising h =
    searched xs n (Ok i) (subst (λ zs. IsBinarySearchResult (λ y. nat_cmp y n) zs (Ok i)) same h) (rises-le xs rising)

-- a search that fails gives the place between the slots below and those above
pub found-place : (ys xs : List ℕ) (n i : ℕ) → ys ≡ xs → Rises xs → IsBinarySearchResult (λ y. nat_cmp y n) ys (Err i)
    → (i ≤ length xs) × ((k : ℕ) → k < i → get_or xs k 0 < n) × ((k : ℕ) → i ≤ k → k < length xs → n < get_or xs k 0)
found-place ys xs n i same rising h =
    searched xs n (Err i) (subst (λ zs. IsBinarySearchResult (λ y. nat_cmp y n) zs (Err i)) same h) (rises-le xs rising)

pub has-there : (xs : List ℕ) (n i : ℕ) → i < length xs → get_or xs i 0 ≡ n → list_any (eqb n) xs ≡ true
has-there xs n i l is = list_any_at (eqb n) xs i 0 l (rw is (itself-true n))

pub rises-one : (n : ℕ) → Rises (n ∷ [])
rises-one n = rises-with n [] (λ i j d l m. absurd (omega (arith, m)))

pub where-some : (xs : List ℕ) → 0 < length xs → where_any xs ≡ Some xs
where-some [] l = absurd (omega (arith, l))
where-some (x ∷ xs) l = refl
