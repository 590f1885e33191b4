-- The interval of one comparator and Cargo's matching agree on each release if they agree on the first patch.
use Rattle.std.proofs.Common.{◌≡◌, ◌∙◌, ℕ, Bool, List, [], Option, None, Some, false, true, arith, inl, inr, refl, subst, sym}
use Rattle.std.specs.Prelude.{◌&&◌}
use Rattle.std.proofs.lemmas.Bool.Decides.{nat_tests}
use Rattle.semver.specs.EvalViews.{view_op}
use Rattle.semver.specs.declared.Op.TheVariants as op
use Rattle.semver.specs.Parse.{Held, Parts}
use Rattle.rustsec_versions.specs.interval.Interval.{Endpoint, Interval, inclusive, is_after, is_before, unbounded}
use Rattle.rustsec_versions.specs.order.Precedence.{is_at_most}
use Rattle.rustsec_versions.specs.requirement.Requirement.{base_version, of_one}
use Rattle.rustsec_versions.specs.Matching.{LeavesLast, first_patch}
use Rattle.rustsec_versions.proofs.Releases as release
use Rattle.rustsec_versions.proofs.MatchedRequirements.{AgreeOn, and-true, some-same}
use Rattle.rustsec_versions.proofs.Sides.{EndOr, StartOr, end-or, start-or}
use Rattle.rustsec_versions.proofs.Zeros.{caret, tilde}

opposite : {P : Type 0} (a b : Bool) → a ≡ b → a ≡ true → b ≡ false → P
opposite a b same h k = absurd (cc (sym h ∙ (same ∙ k)))

from-start : (c : Held) (s : Endpoint) → StartOr c s → AgreeOn c (record { start = s; end = unbounded }) (first_patch c) → (v : Parts) → v.3 ≡ []
    → AgreeOn c (record { start = s; end = unbounded }) v
from-start c s (inl same) at v none = and-true (is_after s v) ∙ same v none
from-start c s (inr wider) at v none =
    opposite (is_after s (first_patch c)) (view_op c.0 c (first_patch c)) (sym (and-true (is_after s (first_patch c))) ∙ at) wider.is_held wider.not_matched

from-end : (c : Held) (e : Endpoint) → EndOr c e → AgreeOn c (record { start = unbounded; end = e }) (first_patch c) → (v : Parts) → v.3 ≡ []
    → AgreeOn c (record { start = unbounded; end = e }) v
from-end c e (inl same) at v none = same v none
from-end c e (inr narrower) at v none = opposite (view_op c.0 c (first_patch c)) (is_before e (first_patch c)) (sym at) narrower.is_matched narrower.not_held

exact-two : {P : Type 0} (a b : ℕ) → is_at_most (a, b, 0, [], []) (a, b, 1, [], []) && is_at_most (a, b, 1, [], []) (a, b, 0, [], [])
    ≡ view_op op.Exact (op.Exact, a, Some b, None, []) (a, b, 1, [], []) → P
exact-two a b same = absurd (grind (arith, nat_tests))

exact-one : {P : Type 0} (a : ℕ) → is_at_most (a, 0, 0, [], []) (a, 0, 1, [], []) && is_at_most (a, 0, 1, [], []) (a, 0, 0, [], [])
    ≡ view_op op.Exact (op.Exact, a, None, None, []) (a, 0, 1, [], []) → P
exact-one a same = absurd (grind (arith, nat_tests))

module _ (i : Interval) (v : Parts) (none : v.3 ≡ []) where
  abbrev Same : Held → Interval → Type 0
  Same c j = AgreeOn c j v

  abbrev point : Held → Interval
  point c = record { start = inclusive (base_version c); end = inclusive (base_version c) }

  exact : (a : ℕ) (m n : Option ℕ) (p : List ℕ) → LeavesLast (op.Exact, a, m, n, p)
      → AgreeOn (op.Exact, a, m, n, p) (point (op.Exact, a, m, n, p)) (first_patch (op.Exact, a, m, n, p)) → Same (op.Exact, a, m, n, p) (point (op.Exact, a, m, n, p))
  exact a None (Some n) p last at = cc (last.patch refl)
  exact a (Some b) (Some n) p last at = release.exact-full v none a b n p
  exact a (Some b) None p last at =
      exact-two a b (subst (λ (q : List ℕ). AgreeOn (op.Exact, a, Some b, None, q) (point (op.Exact, a, Some b, None, q)) (a, b, 1, [], [])) (last.pre refl) at)
  exact a None None p last at =
      exact-one a (subst (λ (q : List ℕ). AgreeOn (op.Exact, a, None, None, q) (point (op.Exact, a, None, None, q)) (a, 0, 1, [], [])) (last.pre refl) at)

  -- what holds for the interval that the operator gives
  given : (c : Held) (j : Interval) → Some j ≡ Some i → (AgreeOn c j (first_patch c) → Same c j) → AgreeOn c i (first_patch c) → Same c i
  given c j is h = subst (λ k. AgreeOn c k (first_patch c) → Same c k) (some-same j i is) h

  pub one-agrees : (c : Held) → LeavesLast c → of_one c.0 c ≡ Some i → AgreeOn c i (first_patch c) → AgreeOn c i v
  one-agrees (op.Greater, a, m, n, p) last is =
      given (op.Greater, a, m, n, p) _ is (λ at. from-start (op.Greater, a, m, n, p) _ (start-or (op.Greater, a, m, n, p) _ last refl) at v none)
  one-agrees (op.GreaterEq, a, m, n, p) last is =
      given (op.GreaterEq, a, m, n, p) _ is (λ at. from-start (op.GreaterEq, a, m, n, p) _ (start-or (op.GreaterEq, a, m, n, p) _ last refl) at v none)
  one-agrees (op.Less, a, m, n, p) last is =
      given (op.Less, a, m, n, p) _ is (λ at. from-end (op.Less, a, m, n, p) _ (end-or (op.Less, a, m, n, p) _ last refl) at v none)
  one-agrees (op.LessEq, a, m, n, p) last is =
      given (op.LessEq, a, m, n, p) _ is (λ at. from-end (op.LessEq, a, m, n, p) _ (end-or (op.LessEq, a, m, n, p) _ last refl) at v none)
  one-agrees (op.Exact, a, m, n, p) last is = given (op.Exact, a, m, n, p) _ is (exact a m n p last)
  one-agrees (op.Caret, a, m, n, p) last is = λ at. caret v none i a m n p is
  one-agrees (op.Tilde, a, m, n, p) last is = λ at. tilde v none i a m n p is
  one-agrees (op.Wildcard, a, m, n, p) last is = cc is
