-- `==` of versions, intervals, requirements and lists of them holds exactly between the same values. It only helps
-- proofs: `Equality` defines "equal".
use Rattle.std.specs.Prelude.{◌≡◌, ◌&&◌, ℕ, Bool, true, false, List, nat_eq, refl}
use Rattle.std.specs.Bool.{Decides}
use Rattle.std.specs.Cmp.Lexicographic.{bytes_decides, pointwise, pointwise_decides}
use Rattle.std.specs.Option.{option_eq}
use Rattle.std.proofs.Common.{ap, arith, eq-eqb, subst}
use Rattle.std.proofs.lemmas.Bool.{eqb-true}
use Rattle.semver.specs.Parse.{Held, Parts}
use Rattle.semver.specs.declared.Op.{Op}
use Rattle.semver.specs.declared.Op.TheVariants as op
use Rattle.rustsec_values.specs.Equality.{option_decides}
use Rattle.rustsec_versions.specs.Equality.{comparator_eq, endpoint_eq, interval_eq, lists_eq, op_number, requirements_eq, version_eq}
use Rattle.rustsec_versions.specs.interval.Interval.{Endpoint, Interval, exclusive, inclusive, unbounded}
use Rattle.rustsec_versions.specs.acceptance.Lists.{Lists}

both-true : (a b : Bool) → (a && b) ≡ true → (a ≡ true) × (b ≡ true)
both-true true b h = (refl, h)
both-true false b h = cc h

both : (a b : Bool) → a ≡ true → b ≡ true → (a && b) ≡ true
both true b h k = k
both false b h k = cc h

number_decides : (x y : ℕ) → Decides (nat_eq x y) (x ≡ y)
number_decides x y = (λ h. eqb-true x y h, λ e. eq-eqb x y e)

-- ---- versions

version-same : (a b : Parts) → version_eq a b ≡ true → a ≡ b
version-same a b h =
    let (major, rest) = both-true (nat_eq a.0 b.0) _ h in
    let (minor, more) = both-true (nat_eq a.1 b.1) _ rest in
    let (patch, texts) = both-true (nat_eq a.2 b.2) _ more in
    let (pre, build) = both-true (pointwise nat_eq a.3 b.3) _ texts in
    let e0 = (number_decides a.0 b.0).0 major in
    let e1 = (number_decides a.1 b.1).0 minor in
    let e2 = (number_decides a.2 b.2).0 patch in
    let e3 = (bytes_decides a.3 b.3).0 pre in
    let e4 = (bytes_decides a.4 b.4).0 build in
    λ i. (e0 i, e1 i, e2 i, e3 i, e4 i)

version-equal : (a b : Parts) → a ≡ b → version_eq a b ≡ true
version-equal a b h =
    both (nat_eq a.0 b.0) _ ((number_decides a.0 b.0).1 (ap (λ (v : Parts). v.0) h))
    (both (nat_eq a.1 b.1) _ ((number_decides a.1 b.1).1 (ap (λ (v : Parts). v.1) h))
    (both (nat_eq a.2 b.2) _ ((number_decides a.2 b.2).1 (ap (λ (v : Parts). v.2) h))
    (both (pointwise nat_eq a.3 b.3) _ ((bytes_decides a.3 b.3).1 (ap (λ (v : Parts). v.3) h))
    ((bytes_decides a.4 b.4).1 (ap (λ (v : Parts). v.4) h)))))

pub version_decides : (a b : Parts) → Decides (version_eq a b) (a ≡ b)
version_decides a b = (version-same a b, version-equal a b)

-- ---- intervals

endpoint-same : (a b : Endpoint) → endpoint_eq a b ≡ true → a ≡ b
endpoint-same unbounded unbounded h = refl
endpoint-same unbounded (exclusive w) h = cc h
endpoint-same unbounded (inclusive w) h = cc h
endpoint-same (exclusive v) unbounded h = cc h
endpoint-same (exclusive v) (exclusive w) h = ap exclusive (version-same v w h)
endpoint-same (exclusive v) (inclusive w) h = cc h
endpoint-same (inclusive v) unbounded h = cc h
endpoint-same (inclusive v) (exclusive w) h = cc h
endpoint-same (inclusive v) (inclusive w) h = ap inclusive (version-same v w h)

endpoint-itself : (a : Endpoint) → endpoint_eq a a ≡ true
endpoint-itself unbounded = refl
endpoint-itself (exclusive v) = version-equal v v refl
endpoint-itself (inclusive v) = version-equal v v refl

endpoint-equal : (a b : Endpoint) → a ≡ b → endpoint_eq a b ≡ true
endpoint-equal a b h = subst (λ x. endpoint_eq a x ≡ true) h (endpoint-itself a)

pub interval_decides : (i j : Interval) → Decides (interval_eq i j) (i ≡ j)
interval_decides i j = (
  λ h. let (start, end) = both-true (endpoint_eq i.start j.start) _ h in
      let e = endpoint-same i.start j.start start in
      let f = endpoint-same i.end j.end end in
      λ k. record { start = e k; end = f k },
  λ h. both (endpoint_eq i.start j.start) _ (endpoint-equal i.start j.start (ap (λ (r : Interval). r.start) h))
      (endpoint-equal i.end j.end (ap (λ (r : Interval). r.end) h)),
)

-- ---- requirements

op-same : (a b : Op) → op_number a ≡ op_number b → a ≡ b
op-same op.Exact op.Exact h = refl
op-same op.Exact _ h = absurd (omega (arith, h))
op-same op.Greater op.Greater h = refl
op-same op.Greater _ h = absurd (omega (arith, h))
op-same op.GreaterEq op.GreaterEq h = refl
op-same op.GreaterEq _ h = absurd (omega (arith, h))
op-same op.Less op.Less h = refl
op-same op.Less _ h = absurd (omega (arith, h))
op-same op.LessEq op.LessEq h = refl
op-same op.LessEq _ h = absurd (omega (arith, h))
op-same op.Tilde op.Tilde h = refl
op-same op.Tilde _ h = absurd (omega (arith, h))
op-same op.Caret op.Caret h = refl
op-same op.Caret _ h = absurd (omega (arith, h))
op-same op.Wildcard op.Wildcard h = refl
op-same op.Wildcard _ h = absurd (omega (arith, h))

comparator-same : (c d : Held) → comparator_eq c d ≡ true → c ≡ d
comparator-same c d h =
    let (operator, rest) = both-true (nat_eq (op_number c.0) (op_number d.0)) _ h in
    let (major, more) = both-true (nat_eq c.1 d.1) _ rest in
    let (minor, numbers) = both-true (option_eq nat_eq c.2 d.2) _ more in
    let (patch, pre) = both-true (option_eq nat_eq c.3 d.3) _ numbers in
    let e0 = op-same c.0 d.0 ((number_decides _ _).0 operator) in
    let e1 = (number_decides c.1 d.1).0 major in
    let e2 = (option_decides nat_eq number_decides c.2 d.2).0 minor in
    let e3 = (option_decides nat_eq number_decides c.3 d.3).0 patch in
    let e4 = (bytes_decides c.4 d.4).0 pre in
    λ i. (e0 i, e1 i, e2 i, e3 i, e4 i)

comparator-equal : (c d : Held) → c ≡ d → comparator_eq c d ≡ true
comparator-equal c d h =
    both (nat_eq (op_number c.0) (op_number d.0)) _ ((number_decides _ _).1 (ap (λ (x : Held). op_number x.0) h))
    (both (nat_eq c.1 d.1) _ ((number_decides c.1 d.1).1 (ap (λ (x : Held). x.1) h))
    (both (option_eq nat_eq c.2 d.2) _ ((option_decides nat_eq number_decides c.2 d.2).1 (ap (λ (x : Held). x.2) h))
    (both (option_eq nat_eq c.3 d.3) _ ((option_decides nat_eq number_decides c.3 d.3).1 (ap (λ (x : Held). x.3) h))
    ((bytes_decides c.4 d.4).1 (ap (λ (x : Held). x.4) h)))))

pub requirements_decides : (rs ss : List (List Held)) → Decides (requirements_eq rs ss) (rs ≡ ss)
requirements_decides = pointwise_decides (pointwise_decides (λ c d. (comparator-same c d, comparator-equal c d)))

-- ---- the lists of an advisory

pub lists_decides : (ls ms : Lists) → Decides (lists_eq ls ms) (ls ≡ ms)
lists_decides ls ms = (
  λ h. let (patched, unaffected) = both-true (requirements_eq ls.patched ms.patched) _ h in
      let e = (requirements_decides ls.patched ms.patched).0 patched in
      let f = (requirements_decides ls.unaffected ms.unaffected).0 unaffected in
      λ i. record { patched = e i; unaffected = f i },
  λ h. both (requirements_eq ls.patched ms.patched) _ ((requirements_decides ls.patched ms.patched).1 (ap (λ (l : Lists). l.patched) h))
      ((requirements_decides ls.unaffected ms.unaffected).1 (ap (λ (l : Lists). l.unaffected) h)),
)
