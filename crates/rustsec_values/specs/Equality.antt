-- `==` decides equality of a value if it decides equality of its parts.
use Rattle.std.specs.Prelude.{◌≡◌, Bool, true, false, ◌&&◌, Option, Some, None, refl}
use Rattle.std.specs.Bool.{Decides}
use Rattle.std.specs.Option.{option_eq}
use Rattle.std.specs.Cmp.{first_so, second_so}
use Rattle.std.proofs.Common.{ap}

-- both of two tests hold
pub both_true : (s t : Bool) → s ≡ true → t ≡ true → (s && t) ≡ true
both_true true t a b = b
both_true false t a b = a

-- a pair by its parts
pub pair_decides : {A B : Type 0} (E : A → A → Bool) (F : B → B → Bool)
    → ((x y : A) → Decides (E x y) (x ≡ y)) → ((x y : B) → Decides (F x y) (x ≡ y))
    → (p q : A × B) → Decides (E p.0 q.0 && F p.1 q.1) (p ≡ q)
pair_decides E F e f p q =
    let there : (E p.0 q.0 && F p.1 q.1) ≡ true → p ≡ q =
    λ h i. ((e p.0 q.0).0 (first_so (E p.0 q.0) (F p.1 q.1) h) i, (f p.1 q.1).0 (second_so (E p.0 q.0) (F p.1 q.1) h) i) in
    let back : p ≡ q → (E p.0 q.0 && F p.1 q.1) ≡ true =
    λ h. both_true _ _ ((e p.0 q.0).1 (ap (λ r. r.0) h)) ((f p.1 q.1).1 (ap (λ r. r.1) h)) in
    (there, back)

-- a value that may be missing
pub option_decides : {A : Type 0} (E : A → A → Bool) → ((x y : A) → Decides (E x y) (x ≡ y)) → (p q : Option A) → Decides (option_eq E p q) (p ≡ q)
option_decides E e None None = (λ h. refl, λ h. refl)
option_decides E e None (Some y) = (λ h. cc h, λ h. cc h)
option_decides E e (Some x) None = (λ h. cc h, λ h. cc h)
option_decides E e (Some x) (Some y) = (λ h. ap Some ((e x y).0 h), λ h. (e x y).1 (cc h))
