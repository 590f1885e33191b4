-- When two versions, bounds, intervals or requirements are equal: if all their parts are, build metadata included.
-- It carries meaning: public contracts cite it.
use Rattle.std.specs.Prelude.{ℕ, Bool, [], List, nat_eq}
use Rattle.std.specs.Cmp.{IsEquivalence, and_equiv, nat_eq_equiv, on_equiv}
use Rattle.std.specs.Cmp.Lexicographic.{lists_equiv as elements_equiv, nat_list_eq_equiv, options_equiv, pointwise}
use Rattle.std.specs.Option.{option_eq}
use Rattle.std.specs.Ordering.{eq_of_both, on}
use Rattle.semver.specs.Parse.{Held, Parts}
use Rattle.semver.specs.declared.Op.{Op}
use Rattle.semver.specs.declared.Op.TheVariants as op
use Rattle.rustsec_versions.specs.acceptance.Lists.{Lists}
use Rattle.rustsec_versions.specs.interval.Interval.{Endpoint, Interval, exclusive, inclusive, unbounded}

-- two versions
abbrev pub version_eq : Parts → Parts → Bool
version_eq = eq_of_both (on (λ (v : Parts). v.0) nat_eq) (eq_of_both (on (λ (v : Parts). v.1) nat_eq)
    (eq_of_both (on (λ (v : Parts). v.2) nat_eq) (eq_of_both (on (λ (v : Parts). v.3) (pointwise nat_eq)) (on (λ (v : Parts). v.4) (pointwise nat_eq)))))

-- the kind of a bound, and its version, which is 0.0.0 if it is unbounded
abbrev pub bound_kind : Endpoint → ℕ
bound_kind unbounded = 0
bound_kind (exclusive v) = 1
bound_kind (inclusive v) = 2

abbrev pub bound_version : Endpoint → Parts
bound_version unbounded = (0, 0, 0, [], [])
bound_version (exclusive v) = v
bound_version (inclusive v) = v

-- two bounds
abbrev pub endpoint_eq : Endpoint → Endpoint → Bool
endpoint_eq = eq_of_both (on bound_kind nat_eq) (on bound_version version_eq)

-- two intervals
abbrev pub interval_eq : Interval → Interval → Bool
interval_eq = eq_of_both (on (λ (i : Interval). i.start) endpoint_eq) (on (λ (i : Interval). i.end) endpoint_eq)

-- the number of an operator, in the order of its type
abbrev pub op_number : Op → ℕ
op_number op.Exact = 0
op_number op.Greater = 1
op_number op.GreaterEq = 2
op_number op.Less = 3
op_number op.LessEq = 4
op_number op.Tilde = 5
op_number op.Caret = 6
op_number op.Wildcard = 7

-- two comparators
abbrev pub comparator_eq : Held → Held → Bool
comparator_eq = eq_of_both (on (λ (c : Held). op_number c.0) nat_eq) (eq_of_both (on (λ (c : Held). c.1) nat_eq)
    (eq_of_both (on (λ (c : Held). c.2) (option_eq nat_eq)) (eq_of_both (on (λ (c : Held). c.3) (option_eq nat_eq)) (on (λ (c : Held). c.4) (pointwise nat_eq)))))

-- two lists of requirements: the same comparators in the same order
abbrev pub requirements_eq : List (List Held) → List (List Held) → Bool
requirements_eq = pointwise (pointwise comparator_eq)

-- the two lists of an advisory
abbrev pub lists_eq : Lists → Lists → Bool
lists_eq = eq_of_both (on (λ (l : Lists). l.patched) requirements_eq) (on (λ (l : Lists). l.unaffected) requirements_eq)

-- ---- each of these is an equivalence

pub version_equiv : IsEquivalence version_eq
version_equiv = and_equiv (on_equiv (λ (v : Parts). v.0) nat_eq_equiv) (and_equiv (on_equiv (λ (v : Parts). v.1) nat_eq_equiv)
    (and_equiv (on_equiv (λ (v : Parts). v.2) nat_eq_equiv) (and_equiv (on_equiv (λ (v : Parts). v.3) nat_list_eq_equiv) (on_equiv (λ (v : Parts). v.4) nat_list_eq_equiv))))

pub endpoint_equiv : IsEquivalence endpoint_eq
endpoint_equiv = and_equiv (on_equiv bound_kind nat_eq_equiv) (on_equiv bound_version version_equiv)

pub interval_equiv : IsEquivalence interval_eq
interval_equiv = and_equiv (on_equiv (λ (i : Interval). i.start) endpoint_equiv) (on_equiv (λ (i : Interval). i.end) endpoint_equiv)

pub comparator_equiv : IsEquivalence comparator_eq
comparator_equiv = and_equiv (on_equiv (λ (c : Held). op_number c.0) nat_eq_equiv) (and_equiv (on_equiv (λ (c : Held). c.1) nat_eq_equiv)
    (and_equiv (on_equiv (λ (c : Held). c.2) (options_equiv nat_eq_equiv)) (and_equiv (on_equiv (λ (c : Held). c.3) (options_equiv nat_eq_equiv))
    (on_equiv (λ (c : Held). c.4) nat_list_eq_equiv))))

pub requirements_equiv : IsEquivalence requirements_eq
requirements_equiv = elements_equiv (elements_equiv comparator_equiv)

pub lists_equiv : IsEquivalence lists_eq
lists_equiv = and_equiv (on_equiv (λ (l : Lists). l.patched) requirements_equiv) (on_equiv (λ (l : Lists). l.unaffected) requirements_equiv)
