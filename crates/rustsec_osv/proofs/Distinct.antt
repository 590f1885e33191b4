-- Sorting values and comparing neighbours gives the distinct values, in order.
use Rattle.std.proofs.Common.{◌≡◌, ◌∙◌, Bool, true, List, [], Ordering, map, ap, IsPermutation}
use Rattle.std.specs.Cmp.{IsEquivalence, IsTotalOrder, on_total}
use Rattle.std.specs.List.{dedup}
use Rattle.std.specs.List.Retain.{DiffersFromLast, IsFiltered}
use Rattle.std.specs.List.Sorted.{IsSorted}
use Rattle.std.specs.Ordering.{eq_by_cmp}
use Rattle.std.proofs.lemmas.List.{map-id}
use Rattle.std.proofs.lemmas.List.Filters.{dedup_is}
use Rattle.std.proofs.lemmas.List.Kept.{Contains-dedup, Contains-from_dedup, IsStrictlySortedBy-dedup}
use Rattle.std.proofs.lemmas.List.Sorted.{Contains-permutation, IsPermutation-map, IsPermutation-sym}
use Rattle.rustsec_values.proofs.Seen.{dedup-map, rise-map}
use Rattle.rustsec_osv.specs.Imports.{AreDistinct}

module _ {A B : Type 0} (f : A → B) where
  module _ (R : B → B → Ordering) (total : IsTotalOrder R) (E : B → B → Bool) (ties : (x y : B) → E x y ≡ eq_by_cmp R x y)
      (equiv : IsEquivalence E) (same : (x y : B) → E x y ≡ true → x ≡ y) where
    pub are-distinct : (values sorted left : List A) → IsPermutation values sorted → IsSorted (λ x y. R (f x) (f y)) sorted
        → IsFiltered (DiffersFromLast (λ x y. E (f x) (f y))) [] sorted left → AreDistinct R (map f values) (map f left)
    are-distinct values sorted left perm up kept =
        let is : left ≡ dedup (λ x y. E (f x) (f y)) sorted = dedup_is _ sorted left kept in
        let rising = IsStrictlySortedBy-dedup (on_total f total) (λ x y. ties (f x) (f y)) sorted up in
        let seen : map f left ≡ dedup E (map f sorted) = ap (map f) is ∙ dedup-map f E sorted in
        let shuffled : IsPermutation (map f values) (map f sorted) = IsPermutation-map f values sorted perm in
        record {
          rise = rw is (rise-map f R _ rising);
          same = λ x. (
            λ h. Contains-permutation _ _ x (IsPermutation-sym _ _ shuffled) (Contains-from_dedup E (map f sorted) x (rw seen at h)),
            λ h. rw seen (Contains-dedup equiv same (map f sorted) x (Contains-permutation _ _ x shuffled h)),
          );
        }

-- likewise for values that are seen as they are
pub are-distinct-values : {A : Type 0} (R : A → A → Ordering) (total : IsTotalOrder R) (E : A → A → Bool) (ties : (x y : A) → E x y ≡ eq_by_cmp R x y)
    (equiv : IsEquivalence E) (same : (x y : A) → E x y ≡ true → x ≡ y) (values sorted left : List A) → IsPermutation values sorted
    → IsSorted R sorted → IsFiltered (DiffersFromLast E) [] sorted left → AreDistinct R values left
are-distinct-values R total E ties equiv same values sorted left perm up kept =
    rw (map-id values, map-id left) at (are-distinct (λ x. x) R total E ties equiv same values sorted left perm up kept)
