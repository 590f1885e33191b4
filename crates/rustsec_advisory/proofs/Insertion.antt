-- An entry at a new key of a sorted map: the entries are those before and this one, and stay in order.
use Rattle.std.proofs.Common.{◌≡◌, ◌≢◌, ◌∙◌, List, [], ◌∷◌, Ordering, Less, Equal, Greater, refl, ap}
use Rattle.std.specs.BTreeMap.{insert_entry}
use Rattle.std.specs.Cmp.{IsTotalOrder}
use Rattle.std.specs.List.{AllByRecursion}
use Rattle.std.specs.List.Sorted.{IsPermutation, IsStrictlySortedBy}
use Rattle.std.specs.Map.{keys_of}
use Rattle.std.specs.Ordering.{match_ordering, ordering_reverse}
use Rattle.std.proofs.lemmas.List.Sorted.{IsPermutation-cons, IsPermutation-middle, IsPermutation-refl, IsPermutation-trans}

-- a weaker property of all elements
pub all-weaker : {K : Type 0} (P Q : K → Type 0) (ks : List K) → ((k : K) → P k → Q k) → AllByRecursion P ks → AllByRecursion Q ks
all-weaker P Q [] f all = tt
all-weaker P Q (k ∷ ks) f all = (f k all.0, all-weaker P Q ks f all.1)

module _ {K X : Type 0} (R : K → K → Ordering) where
  -- no key ties with this one
  abbrev pub IsNew : K → List (K × X) → Type 0
  IsNew k es = AllByRecursion (λ q. R k q ≢ Equal) (keys_of es)

  placed : (o : Ordering) (k : K) (v : X) (e : K × X) (es rest : List (K × X)) → o ≢ Equal → IsPermutation ((k, v) ∷ es) rest
      → IsPermutation ((k, v) ∷ e ∷ es) (match_ordering o ((k, v) ∷ e ∷ es) ((e.0, v) ∷ es) (e ∷ rest))
  placed Less k v e es rest new p = IsPermutation-refl _
  placed Equal k v e es rest new p = absurd (new refl)
  placed Greater k v e es rest new p =
      IsPermutation-trans _ _ _ (IsPermutation-middle ((k, v) ∷ []) e es) (IsPermutation-cons e _ _ p)

  pub insertion-permutes : (es : List (K × X)) (k : K) (v : X) → IsNew k es → IsPermutation ((k, v) ∷ es) (insert_entry R es k v)
  insertion-permutes [] k v new = IsPermutation-refl _
  insertion-permutes (e ∷ es) k v new = placed (R k e.0) k v e es (insert_entry R es k v) new.0 (insertion-permutes es k v new.1)

  -- a property of all keys and of the new one
  keys-kept : (P : K → Type 0) (o : Ordering) (k : K) (v : X) (e : K × X) (es rest : List (K × X)) → P k → P e.0
      → AllByRecursion P (keys_of es) → AllByRecursion P (keys_of rest)
      → AllByRecursion P (keys_of (match_ordering o ((k, v) ∷ e ∷ es) ((e.0, v) ∷ es) (e ∷ rest)))
  keys-kept P Less k v e es rest a b c d = (a, (b, c))
  keys-kept P Equal k v e es rest a b c d = (b, c)
  keys-kept P Greater k v e es rest a b c d = (b, d)

  pub keys-with : (P : K → Type 0) (es : List (K × X)) (k : K) (v : X) → AllByRecursion P (keys_of es) → P k
      → AllByRecursion P (keys_of (insert_entry R es k v))
  keys-with P [] k v all this = (this, tt)
  keys-with P (e ∷ es) k v all this = keys-kept P (R k e.0) k v e es _ this all.0 all.1 (keys-with P es k v all.1 this)

  module _ (total : IsTotalOrder R) where
    sorted-placed : (o : Ordering) (k : K) (v : X) (e : K × X) (es rest : List (K × X)) → R k e.0 ≡ o
        → AllByRecursion (λ q. R e.0 q ≡ Less) (keys_of es) → IsStrictlySortedBy R (keys_of es)
        → (o ≡ Greater → AllByRecursion (λ q. R e.0 q ≡ Less) (keys_of rest)) → IsStrictlySortedBy R (keys_of rest)
        → IsStrictlySortedBy R (keys_of (match_ordering o ((k, v) ∷ e ∷ es) ((e.0, v) ∷ es) (e ∷ rest)))
    unfolding IsStrictlySortedBy
    sorted-placed Less k v e es rest is low ordered below ordered_rest =
        ((is, all-weaker _ _ (keys_of es) (λ q h. total.trans k e.0 q is h) low), (low, ordered))
    sorted-placed Equal k v e es rest is low ordered below ordered_rest = (low, ordered)
    sorted-placed Greater k v e es rest is low ordered below ordered_rest = (below refl, ordered_rest)

    pub insertion-sorted : (es : List (K × X)) (k : K) (v : X) → IsStrictlySortedBy R (keys_of es)
        → IsStrictlySortedBy R (keys_of (insert_entry R es k v))
    unfolding IsStrictlySortedBy
    insertion-sorted [] k v h = (tt, tt)
    insertion-sorted (e ∷ es) k v h =
        sorted-placed (R k e.0) k v e es (insert_entry R es k v) refl h.0 h.1
        (λ g. keys-with (λ q. R e.0 q ≡ Less) es k v h.0 (total.antisymm e.0 k ∙ ap ordering_reverse g)) (insertion-sorted es k v h.1)
