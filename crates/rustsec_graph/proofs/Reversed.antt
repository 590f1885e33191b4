-- Lists of the places with an edge to each place, one place after another.
use Rattle.std.proofs.Common.{◌≡◌, ◌∙◌, ◌<◌, ◌+◌, ◌-◌, ◌++◌, ◌==◌, ◌||◌, inl, inr, ℕ, ◌≤◌, Bool, true, false, cond, List, [], ◌∷◌, Some, ap, arith, get_or, length, length-append, refl, subst, sym, take}
use Rattle.std.specs.Prelude.{slice_get}
use Rattle.std.specs.List.{All, filter, list_any, range_with_len}
use Rattle.std.specs.Option.{option_map_or}
use Rattle.std.proofs.Math.Seq.{get_or-append_seam}
use Rattle.std.proofs.lemmas.Bool.Decides.{nat_tests}
use Rattle.std.proofs.lemmas.List.{append-nil}
use Rattle.std.proofs.lemmas.List.Elements.{All-filter, All-from_get_or, All-get_or, All-head, All-tail}
use Rattle.std.proofs.lemmas.List.Folds.{list_any_more}
use Rattle.std.proofs.lemmas.List.FromFn.{get_or-range_with_len, length-range_with_len}
use Rattle.std.proofs.lemmas.Option.{slice_get_cases, slice_get_read}
use Rattle.rustsec_graph.specs.Edges.{dependents, is_successor}
use Rattle.rustsec_graph.specs.Graph.{IsClosed}
use Rattle.rustsec_graph.specs.Paths.{successors}
use Rattle.rustsec_graph.specs.Reverse.{ends_with, with_last}
use Rattle.rustsec_graph.proofs.Words.{or-false, place-dropped, place-kept}

-- ---- one place more

place-step : (p : ℕ → Bool) (i : ℕ) (old new : List ℕ) (b : Bool) → p i ≡ b → old ≡ filter p (range_with_len 0 i) → new ≡ old ++ cond b (i ∷ []) []
    → new ≡ filter p (range_with_len 0 (i + 1))
place-step p i old new true h is more = place-kept p i old new h is more
place-step p i old new false h is more = place-dropped p i old new h is (more ∙ append-nil old)

-- the list of a place, with one more that may have an edge to it
pub place-more : (edges : List (List ℕ)) (p i : ℕ) (old new : List ℕ) → old ≡ filter (is_successor edges p) (range_with_len 0 i)
    → new ≡ old ++ cond (list_any (λ to. to == p) (successors edges i)) (i ∷ []) [] → new ≡ filter (is_successor edges p) (range_with_len 0 (i + 1))
place-more edges p i old new is more = place-step (is_successor edges p) i old new (is_successor edges p i) refl is more

-- ---- no list ends with a place before its turn

different : (n x : ℕ) → x < n → (x == n) ≡ false
different n x l = grind (arith, nat_tests)

below-all : (n : ℕ) → All (λ x. x < n) (range_with_len 0 n)
below-all n =
    All-from_get_or (λ x. x < n) (range_with_len 0 n) 0 (λ i l. (
    let within : i < n = subst (λ m. i < m) (length-range_with_len 0 n) l in
    let at = get_or-range_with_len 0 n i 0 within in
    omega (arith, at, within)
    ))

not-last : (n : ℕ) (xs : List ℕ) → All (λ x. x < n) xs → ends_with n xs ≡ false
not-last n xs all = elim (slice_get_cases xs (length xs - 1)).1 [
  | inl it ↦ (
      let below : it.0 < n = subst (λ y. y < n) it.3 (All-get_or (λ x. x < n) xs (length xs - 1) it.0 it.1 all) in
      ap (λ o. option_map_or (λ last. last == n) o false) it.2 ∙ different n it.0 below
      )
  | inr it ↦ ap (λ o. option_map_or (λ last. last == n) o false) it.1
]

pub fresh : (n : ℕ) (p : ℕ → Bool) → ends_with n (filter p (range_with_len 0 n)) ≡ false
fresh n p = not-last n (filter p (range_with_len 0 n)) (All-filter p (λ x. x < n) (range_with_len 0 n) (below-all n))

-- ---- a place at the end of a list, once

ends-now : (place : ℕ) (xs : List ℕ) → ends_with place (xs ++ place ∷ []) ≡ true
ends-now place xs =
    let long : length (xs ++ place ∷ []) ≡ length xs + 1 = length-append xs (place ∷ []) in
    let at : length (xs ++ place ∷ []) - 1 ≡ length xs = omega (arith, long) in
    let there : slice_get (xs ++ place ∷ []) (length xs) ≡ Some place =
    slice_get_read (xs ++ place ∷ []) (length xs + 1) (length xs) place (sym long) (omega arith) (sym (get_or-append_seam xs place [] place)) in
    ap (λ i. option_map_or (λ last. last == place) (slice_get (xs ++ place ∷ []) i) false) at
    ∙ (ap (λ o. option_map_or (λ last. last == place) o false) there ∙ grind (arith, nat_tests))

once-more : (place : ℕ) (base : List ℕ) (a b : Bool) → ends_with place base ≡ false
    → cond b (with_last place (base ++ cond a (place ∷ []) [])) (base ++ cond a (place ∷ []) []) ≡ base ++ cond (a || b) (place ∷ []) []
once-more place base a false h = ap (λ c. base ++ cond c (place ∷ []) []) (sym (or-false a))
once-more place base true true h = rw (ends-now place base) refl
once-more place base false true h = rw (append-nil base, h) refl

-- the list of one of the places that a place leads to
pub with-one : (place p i : ℕ) (base old new to : List ℕ) (d : ℕ) → i < length to → ends_with place base ≡ false
    → old ≡ base ++ cond (list_any (λ t. t == p) (take i to)) (place ∷ []) [] → new ≡ cond (get_or to i d == p) (with_last place old) old
    → new ≡ base ++ cond (list_any (λ t. t == p) (take (i + 1) to)) (place ∷ []) []
with-one place p i base old new to d l h is more =
    more ∙ (ap (λ xs. cond (get_or to i d == p) (with_last place xs) xs) is
    ∙ (once-more place base (list_any (λ t. t == p) (take i to)) (get_or to i d == p) h
    ∙ ap (λ b. base ++ cond b (place ∷ []) []) (sym (list_any_more (λ t. t == p) to i d l))))

-- ---- past the end

other-place : (n x p : ℕ) → x < n → n ≤ p → (x == p) ≡ false
other-place n x p l k = grind (arith, nat_tests)

none-to : (n p : ℕ) (xs : List ℕ) → n ≤ p → All (λ target. target < n) xs → list_any (λ to. to == p) xs ≡ false
none-to n p [] l all = refl
none-to n p (x ∷ xs) l all =
    ap (λ b. b || list_any (λ to. to == p) xs) (other-place n x p (All-head (λ target. target < n) x xs all) l)
    ∙ none-to n p xs l (All-tail (λ target. target < n) x xs all)

none-kept : (f : ℕ → Bool) (xs : List ℕ) → ((x : ℕ) → f x ≡ false) → filter f xs ≡ []
none-kept f [] none = refl
none-kept f (x ∷ xs) none = rw (none x) (none-kept f xs none)

-- no place has an edge to one past the end
pub past-end : (edges : List (List ℕ)) (roots : List ℕ) (p : ℕ) → IsClosed edges roots → length edges ≤ p → dependents edges p ≡ []
past-end edges roots p closed l =
    none-kept (is_successor edges p) (range_with_len 0 (length edges)) (λ from. none-to (length edges) p (successors edges from) l (closed.all_targets from))
