-- The comparators of a side and releases: for most of them the interval and Cargo's matching agree, for `>` and `<=` without a patch they do not.
use Rattle.std.proofs.Common.{◌≡◌, ◌⊎◌, ℕ, List, [], None, Some, false, true, arith, inl, inr, refl, subst, sym}
use Rattle.std.specs.Prelude.{unwrap_or}
use Rattle.std.proofs.lemmas.Bool.Decides.{nat_tests}
use Rattle.semver.specs.EvalViews.{view_op}
use Rattle.semver.specs.declared.Op.TheVariants as op
use Rattle.semver.specs.Parse.{Held, Parts}
use Rattle.rustsec_versions.specs.interval.Interval.{Endpoint, exclusive, inclusive, is_after, is_before, reaches}
use Rattle.rustsec_versions.specs.order.Precedence.{is_at_most, is_below, precedence}
use Rattle.rustsec_versions.specs.requirement.Requirement.{lower, side_of, upper}
use Rattle.rustsec_versions.specs.Matching.{LeavesLast, first_patch}
use Rattle.rustsec_versions.proofs.Releases as release
use Rattle.rustsec_versions.proofs.Zeros.{same-end, same-start}

-- the start and the comparator agree on each release
abbrev pub IsSameStart : Held → Endpoint → Type 0
IsSameStart c s = (v : Parts) → v.3 ≡ [] → is_after s v ≡ view_op c.0 c v

abbrev pub IsSameEnd : Held → Endpoint → Type 0
IsSameEnd c e = (v : Parts) → v.3 ≡ [] → is_before e v ≡ view_op c.0 c v

-- `>` without a patch: its start holds the first patch and all that the comparator matches
pub record IsWiderStart (c : Held) (s : Endpoint) : Type 0 where
  pub is_held : is_after s (first_patch c) ≡ true
  pub not_matched : view_op c.0 c (first_patch c) ≡ false
  pub held : (v : Parts) → v.3 ≡ [] → view_op c.0 c v ≡ true → is_after s v ≡ true
  pub least : (v : Parts) → v.3 ≡ [] → is_after s v ≡ true → view_op c.0 c v ≡ false → is_at_most (first_patch c) v ≡ true
  pub below : (x y : ℕ) → reaches precedence s (inclusive (x, y, 0, [], [])) ≡ true → is_at_most (first_patch c) (x, y, 0, [], []) ≡ true

-- `<=` without a patch: its end does not hold the first patch, which the comparator matches
pub record IsNarrowerEnd (c : Held) (e : Endpoint) : Type 0 where
  pub end : e ≡ inclusive (c.1, unwrap_or c.2 0, 0, [], [])
  pub not_held : is_before e (first_patch c) ≡ false
  pub is_matched : view_op c.0 c (first_patch c) ≡ true

abbrev pub StartOr : Held → Endpoint → Type 0
StartOr c s = IsSameStart c s ⊎ IsWiderStart c s

abbrev pub EndOr : Held → Endpoint → Type 0
EndOr c e = IsSameEnd c e ⊎ IsNarrowerEnd c e

-- ---- `>` without a patch

wide-two : (a b : ℕ) (v : Parts) → v.3 ≡ [] → view_op op.Greater (op.Greater, a, Some b, None, []) v ≡ true → is_below (a, b, 0, [], []) v ≡ true
wide-two a b v none h = grind (arith, nat_tests)

wide-one : (a : ℕ) (v : Parts) → v.3 ≡ [] → view_op op.Greater (op.Greater, a, None, None, []) v ≡ true → is_below (a, 0, 0, [], []) v ≡ true
wide-one a v none h = grind (arith, nat_tests)

least-two : (a b : ℕ) (v : Parts) → v.3 ≡ [] → is_below (a, b, 0, [], []) v ≡ true → view_op op.Greater (op.Greater, a, Some b, None, []) v ≡ false
    → is_at_most (a, b, 1, [], []) v ≡ true
least-two a b v none h k = grind (arith, nat_tests)

least-one : (a : ℕ) (v : Parts) → v.3 ≡ [] → is_below (a, 0, 0, [], []) v ≡ true → view_op op.Greater (op.Greater, a, None, None, []) v ≡ false
    → is_at_most (a, 0, 1, [], []) v ≡ true
least-one a v none h k = grind (arith, nat_tests)

below-two : (a b x y : ℕ) → is_below (a, b, 0, [], []) (x, y, 0, [], []) ≡ true → is_at_most (a, b, 1, [], []) (x, y, 0, [], []) ≡ true
below-two a b x y h = grind (arith, nat_tests)

wider-two : (a b : ℕ) → IsWiderStart (op.Greater, a, Some b, None, []) (exclusive (a, b, 0, [], []))
wider-two a b = record {
  is_held = grind (arith, nat_tests);
  not_matched = grind (arith, nat_tests);
  held = wide-two a b;
  least = least-two a b;
  below = below-two a b;
}

wider-one : (a : ℕ) → IsWiderStart (op.Greater, a, None, None, []) (exclusive (a, 0, 0, [], []))
wider-one a = record {
  is_held = grind (arith, nat_tests);
  not_matched = grind (arith, nat_tests);
  held = wide-one a;
  least = least-one a;
  below = below-two a 0;
}

-- ---- `<=` without a patch

narrower-two : (a b : ℕ) → IsNarrowerEnd (op.LessEq, a, Some b, None, []) (inclusive (a, b, 0, [], []))
narrower-two a b = record { end = refl; not_held = grind (arith, nat_tests); is_matched = grind (arith, nat_tests) }

narrower-one : (a : ℕ) → IsNarrowerEnd (op.LessEq, a, None, None, []) (inclusive (a, 0, 0, [], []))
narrower-one a = record { end = refl; not_held = grind (arith, nat_tests); is_matched = grind (arith, nat_tests) }

-- ---- all starts and ends

pub start-or : (c : Held) (s : Endpoint) → LeavesLast c → side_of c.0 c ≡ lower s → StartOr c s
start-or (op.Greater, a, Some b, Some n, p) s last is =
    subst (λ t. StartOr (op.Greater, a, Some b, Some n, p) t) (same-start _ s is) (inl (λ v none. release.greater-full v none a b n p))
start-or (op.Greater, a, Some b, None, p) s last is =
    subst (λ t. StartOr (op.Greater, a, Some b, None, p) t) (same-start _ s is)
    (subst (λ (q : List ℕ). StartOr (op.Greater, a, Some b, None, q) (exclusive (a, b, 0, q, []))) (sym (last.pre refl)) (inr (wider-two a b)))
start-or (op.Greater, a, None, Some n, p) s last is = cc (last.patch refl)
start-or (op.Greater, a, None, None, p) s last is =
    subst (λ t. StartOr (op.Greater, a, None, None, p) t) (same-start _ s is)
    (subst (λ (q : List ℕ). StartOr (op.Greater, a, None, None, q) (exclusive (a, 0, 0, q, []))) (sym (last.pre refl)) (inr (wider-one a)))
start-or (op.GreaterEq, a, Some b, Some n, p) s last is =
    subst (λ t. StartOr (op.GreaterEq, a, Some b, Some n, p) t) (same-start _ s is) (inl (λ v none. release.at_least-full v none a b n p))
start-or (op.GreaterEq, a, Some b, None, p) s last is =
    subst (λ t. StartOr (op.GreaterEq, a, Some b, None, p) t) (same-start _ s is)
    (subst (λ (q : List ℕ). StartOr (op.GreaterEq, a, Some b, None, q) (inclusive (a, b, 0, q, []))) (sym (last.pre refl)) (inl (λ v none. release.at_least-two v none a b)))
start-or (op.GreaterEq, a, None, Some n, p) s last is = cc (last.patch refl)
start-or (op.GreaterEq, a, None, None, p) s last is =
    subst (λ t. StartOr (op.GreaterEq, a, None, None, p) t) (same-start _ s is)
    (subst (λ (q : List ℕ). StartOr (op.GreaterEq, a, None, None, q) (inclusive (a, 0, 0, q, []))) (sym (last.pre refl)) (inl (λ v none. release.at_least-one v none a)))
start-or (op.Less, a, m, n, p) s last is = cc is
start-or (op.LessEq, a, m, n, p) s last is = cc is
start-or (op.Exact, a, m, n, p) s last is = cc is
start-or (op.Caret, a, m, n, p) s last is = cc is
start-or (op.Tilde, a, m, n, p) s last is = cc is
start-or (op.Wildcard, a, m, n, p) s last is = cc is

pub end-or : (c : Held) (e : Endpoint) → LeavesLast c → side_of c.0 c ≡ upper e → EndOr c e
end-or (op.Less, a, Some b, Some n, p) e last is =
    subst (λ t. EndOr (op.Less, a, Some b, Some n, p) t) (same-end _ e is) (inl (λ v none. release.less-full v none a b n p))
end-or (op.Less, a, Some b, None, p) e last is =
    subst (λ t. EndOr (op.Less, a, Some b, None, p) t) (same-end _ e is)
    (subst (λ (q : List ℕ). EndOr (op.Less, a, Some b, None, q) (exclusive (a, b, 0, q, []))) (sym (last.pre refl)) (inl (λ v none. release.less-two v none a b)))
end-or (op.Less, a, None, Some n, p) e last is = cc (last.patch refl)
end-or (op.Less, a, None, None, p) e last is =
    subst (λ t. EndOr (op.Less, a, None, None, p) t) (same-end _ e is)
    (subst (λ (q : List ℕ). EndOr (op.Less, a, None, None, q) (exclusive (a, 0, 0, q, []))) (sym (last.pre refl)) (inl (λ v none. release.less-one v none a)))
end-or (op.LessEq, a, Some b, Some n, p) e last is =
    subst (λ t. EndOr (op.LessEq, a, Some b, Some n, p) t) (same-end _ e is) (inl (λ v none. release.at_most-full v none a b n p))
end-or (op.LessEq, a, Some b, None, p) e last is =
    subst (λ t. EndOr (op.LessEq, a, Some b, None, p) t) (same-end _ e is)
    (subst (λ (q : List ℕ). EndOr (op.LessEq, a, Some b, None, q) (inclusive (a, b, 0, q, []))) (sym (last.pre refl)) (inr (narrower-two a b)))
end-or (op.LessEq, a, None, Some n, p) e last is = cc (last.patch refl)
end-or (op.LessEq, a, None, None, p) e last is =
    subst (λ t. EndOr (op.LessEq, a, None, None, p) t) (same-end _ e is)
    (subst (λ (q : List ℕ). EndOr (op.LessEq, a, None, None, q) (inclusive (a, 0, 0, q, []))) (sym (last.pre refl)) (inr (narrower-one a)))
end-or (op.Greater, a, m, n, p) e last is = cc is
end-or (op.GreaterEq, a, m, n, p) e last is = cc is
end-or (op.Exact, a, m, n, p) e last is = cc is
end-or (op.Caret, a, m, n, p) e last is = cc is
end-or (op.Tilde, a, m, n, p) e last is = cc is
end-or (op.Wildcard, a, m, n, p) e last is = cc is
