-- Comparisons of lists, by what contracts see of their elements.
use Rattle.std.proofs.Common.{◌≡◌, Bool, List, [], ◌∷◌, map, refl}
use Rattle.std.specs.Cmp.Lexicographic.{pointwise}
use Rattle.std.specs.Prelude.{nat_eq}
use Rattle.semver.specs.Identifiers.{comparator_view}
use Rattle.semver.specs.contracts.OpPartialEq.TheImpl as op_impl
use Rattle.semver.specs.contracts.VersionReqPartialEq.TheImpl as req_impl
use Rattle.semver.specs.declared.Op.{Op}
use Rattle.semver.specs.declared.Op.TheVariants as op
use Rattle.semver.specs.declared.VersionReq.{VersionReq}
use Rattle.rustsec_versions.specs.Equality.{comparator_eq, op_number}
use Rattle.rustsec_versions.specs.Views.{comparators_of}

-- if a test of elements is a test of their views, so is the test of lists
pub pointwise-map : {A B : Type 0} (E : A → A → Bool) (F : B → B → Bool) (view : A → B) → ((x y : A) → E x y ≡ F (view x) (view y))
    → (xs ys : List A) → pointwise E xs ys ≡ pointwise F (map view xs) (map view ys)
pointwise-map E F view each [] [] = refl
pointwise-map E F view each [] (y ∷ ys) = refl
pointwise-map E F view each (x ∷ xs) [] = refl
pointwise-map E F view each (x ∷ xs) (y ∷ ys) = rw (each x y, pointwise-map E F view each xs ys) refl

-- ---- requirements

op-eq : (a b : Op) → op_impl.ghosts.eq a b ≡ nat_eq (op_number a) (op_number b)
op-eq op.Exact op.Exact = refl
op-eq op.Exact _ = refl
op-eq op.Greater op.Greater = refl
op-eq op.Greater _ = refl
op-eq op.GreaterEq op.GreaterEq = refl
op-eq op.GreaterEq _ = refl
op-eq op.Less op.Less = refl
op-eq op.Less _ = refl
op-eq op.LessEq op.LessEq = refl
op-eq op.LessEq _ = refl
op-eq op.Tilde op.Tilde = refl
op-eq op.Tilde _ = refl
op-eq op.Caret op.Caret = refl
op-eq op.Caret _ = refl
op-eq op.Wildcard op.Wildcard = refl
op-eq op.Wildcard _ = refl

pub requirement-eq : (x y : VersionReq) → req_impl.ghosts.eq x y ≡ pointwise comparator_eq (comparators_of x) (comparators_of y)
requirement-eq x y = pointwise-map _ comparator_eq comparator_view (λ a b. rw (op-eq a.op b.op) refl) x.comparators.items y.comparators.items
