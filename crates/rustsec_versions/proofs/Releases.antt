-- One comparator and a release: its interval holds the release exactly if Cargo's matching takes it.
use Rattle.std.proofs.Common.{◌≡◌, ℕ, suc, List, [], ◌∷◌, None, Some, arith}
use Rattle.std.specs.Prelude.{◌+◌, ◌&&◌}
use Rattle.std.proofs.lemmas.Bool.Decides.{nat_tests}
use Rattle.semver.specs.EvalViews.{view_op}
use Rattle.semver.specs.declared.Op.TheVariants as op
use Rattle.semver.specs.Parse.{Parts}
use Rattle.rustsec_versions.specs.order.Precedence.{is_at_most, is_below, least_of}

module _ (v : Parts) (none : v.3 ≡ []) where
  -- ---- three numbers

  pub greater-full : (a b c : ℕ) (p : List ℕ) → is_below (a, b, c, p, []) v ≡ view_op op.Greater (op.Greater, a, Some b, Some c, p) v
  greater-full a b c [] = grind (arith, nat_tests)
  greater-full a b c (q ∷ qs) = grind (arith, nat_tests)

  pub at_least-full : (a b c : ℕ) (p : List ℕ) → is_at_most (a, b, c, p, []) v ≡ view_op op.GreaterEq (op.GreaterEq, a, Some b, Some c, p) v
  at_least-full a b c [] = grind (arith, nat_tests)
  at_least-full a b c (q ∷ qs) = grind (arith, nat_tests)

  pub less-full : (a b c : ℕ) (p : List ℕ) → is_below v (a, b, c, p, []) ≡ view_op op.Less (op.Less, a, Some b, Some c, p) v
  less-full a b c [] = grind (arith, nat_tests)
  less-full a b c (q ∷ qs) = grind (arith, nat_tests)

  pub at_most-full : (a b c : ℕ) (p : List ℕ) → is_at_most v (a, b, c, p, []) ≡ view_op op.LessEq (op.LessEq, a, Some b, Some c, p) v
  at_most-full a b c [] = grind (arith, nat_tests)
  at_most-full a b c (q ∷ qs) = grind (arith, nat_tests)

  pub exact-full : (a b c : ℕ) (p : List ℕ) → is_at_most (a, b, c, p, []) v && is_at_most v (a, b, c, p, []) ≡ view_op op.Exact (op.Exact, a, Some b, Some c, p) v
  exact-full a b c [] = grind (arith, nat_tests)
  exact-full a b c (q ∷ qs) = grind (arith, nat_tests)

  -- ---- two numbers

  pub at_least-two : (a b : ℕ) → is_at_most (a, b, 0, [], []) v ≡ view_op op.GreaterEq (op.GreaterEq, a, Some b, None, []) v
  at_least-two a b = grind (arith, nat_tests)

  pub less-two : (a b : ℕ) → is_below v (a, b, 0, [], []) ≡ view_op op.Less (op.Less, a, Some b, None, []) v
  less-two a b = grind (arith, nat_tests)

  -- ---- one number

  pub at_least-one : (a : ℕ) → is_at_most (a, 0, 0, [], []) v ≡ view_op op.GreaterEq (op.GreaterEq, a, None, None, []) v
  at_least-one a = grind (arith, nat_tests)

  pub less-one : (a : ℕ) → is_below v (a, 0, 0, [], []) ≡ view_op op.Less (op.Less, a, None, None, []) v
  less-one a = grind (arith, nat_tests)

  -- ---- `^`

  pub caret-one : (a : ℕ) (p : List ℕ) → is_at_most (a, 0, 0, p, []) v && is_below v (least_of (a + 1) 0 0) ≡ view_op op.Caret (op.Caret, a, None, None, p) v
  caret-one a [] = grind (arith, nat_tests)
  caret-one a (q ∷ qs) = grind (arith, nat_tests)

  pub caret-two : (a b : ℕ) (p : List ℕ) → is_at_most (suc a, b, 0, p, []) v && is_below v (least_of (suc a + 1) 0 0)
      ≡ view_op op.Caret (op.Caret, suc a, Some b, None, p) v
  caret-two a b [] = grind (arith, nat_tests)
  caret-two a b (q ∷ qs) = grind (arith, nat_tests)

  pub caret-zero_two : (b : ℕ) (p : List ℕ) → is_at_most (0, b, 0, p, []) v && is_below v (least_of 0 (b + 1) 0) ≡ view_op op.Caret (op.Caret, 0, Some b, None, p) v
  caret-zero_two b [] = grind (arith, nat_tests)
  caret-zero_two b (q ∷ qs) = grind (arith, nat_tests)

  pub caret-full : (a b c : ℕ) (p : List ℕ) → is_at_most (suc a, b, c, p, []) v && is_below v (least_of (suc a + 1) 0 0)
      ≡ view_op op.Caret (op.Caret, suc a, Some b, Some c, p) v
  caret-full a b c [] = grind (arith, nat_tests)
  caret-full a b c (q ∷ qs) = grind (arith, nat_tests)

  pub caret-zero_full : (b c : ℕ) (p : List ℕ) → is_at_most (0, suc b, c, p, []) v && is_below v (least_of 0 (suc b + 1) 0)
      ≡ view_op op.Caret (op.Caret, 0, Some (suc b), Some c, p) v
  caret-zero_full b c [] = grind (arith, nat_tests)
  caret-zero_full b c (q ∷ qs) = grind (arith, nat_tests)

  pub caret-zeros_full : (c : ℕ) (p : List ℕ) → is_at_most (0, 0, c, p, []) v && is_below v (least_of 0 0 (c + 1))
      ≡ view_op op.Caret (op.Caret, 0, Some 0, Some c, p) v
  caret-zeros_full c [] = grind (arith, nat_tests)
  caret-zeros_full c (q ∷ qs) = grind (arith, nat_tests)

  -- ---- `~`

  pub tilde-one : (a : ℕ) (p : List ℕ) → is_at_most (a, 0, 0, p, []) v && is_below v (least_of (a + 1) 0 0) ≡ view_op op.Tilde (op.Tilde, a, None, None, p) v
  tilde-one a [] = grind (arith, nat_tests)
  tilde-one a (q ∷ qs) = grind (arith, nat_tests)

  pub tilde-two : (a b : ℕ) (p : List ℕ) → is_at_most (a, b, 0, p, []) v && is_below v (least_of a (b + 1) 0) ≡ view_op op.Tilde (op.Tilde, a, Some b, None, p) v
  tilde-two a b [] = grind (arith, nat_tests)
  tilde-two a b (q ∷ qs) = grind (arith, nat_tests)

  pub tilde-full : (a b c : ℕ) (p : List ℕ) → is_at_most (a, b, c, p, []) v && is_below v (least_of a (b + 1) 0)
      ≡ view_op op.Tilde (op.Tilde, a, Some b, Some c, p) v
  tilde-full a b c [] = grind (arith, nat_tests)
  tilde-full a b c (q ∷ qs) = grind (arith, nat_tests)
