-- Lists of versions in rising order, neighbour by neighbour and by places.
use Rattle.std.proofs.Common.{◌≡◌, ◌+◌, zero, suc, true, List, [], ◌∷◌, arith}
use Rattle.std.specs.List.Sorted.{IsSorted}
use Rattle.semver.specs.Parse.{Parts}
use Rattle.rustsec_versions.specs.order.Precedence.{is_at_most, precedence}
use Rattle.rustsec_versions.proofs.lemmas.order.PrecedenceLaws.{at_most-not_below, not_below}

abbrev pub Rises : List Parts → Type 0
Rises [] = Unit {0}
Rises (v ∷ []) = Unit {0}
Rises (v ∷ w ∷ vs) = (is_at_most v w ≡ true) × Rises (w ∷ vs)

pub IsSorted-from : (vs : List Parts) → Rises vs → IsSorted precedence vs
IsSorted-from [] r k d low high = absurd (omega arith)
IsSorted-from (v ∷ []) r k d low high = absurd (omega arith)
IsSorted-from (v ∷ w ∷ vs) r zero d low high = at_most-not_below v w r.0
IsSorted-from (v ∷ w ∷ vs) r (suc k) d low high =
    let e : suc k + 1 ≡ suc (k + 1) = omega arith in
    rw e (IsSorted-from (w ∷ vs) r.1 k d (omega arith) (omega arith))

pub Rises-from : (vs : List Parts) → IsSorted precedence vs → Rises vs
Rises-from [] s = tt
Rises-from (v ∷ []) s = tt
Rises-from (v ∷ w ∷ vs) s = (
  not_below w v (s 0 v (omega arith) (omega arith)),
  Rises-from (w ∷ vs) (λ k d low high. let e : suc k + 1 ≡ suc (k + 1) = omega arith in rw e at (s (suc k) d (omega arith) (omega arith))),
)

pub Rises-tail : (v : Parts) (vs : List Parts) → Rises (v ∷ vs) → Rises vs
Rises-tail v [] r = tt
Rises-tail v (w ∷ vs) r = r.1

-- a list that rises still rises with a version at or below its first element before it
pub Rises-cons : (u v : Parts) (vs : List Parts) → is_at_most u v ≡ true → Rises (v ∷ vs) → Rises (u ∷ v ∷ vs)
Rises-cons u v vs h r = (h, r)
