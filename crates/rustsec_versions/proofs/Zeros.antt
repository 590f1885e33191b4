-- The interval of a requirement holds a release exactly if Cargo's matching takes it with zeros for missing numbers.
use Rattle.std.proofs.Common.{◌≡◌, ◌∙◌, ℕ, map, suc, zero, Bool, List, [], ◌∷◌, Option, None, Some, false, true, refl, subst, sym}
use Rattle.std.specs.Prelude.{◌+◌, ◌&&◌, option_map, unwrap_or}
use Rattle.semver.specs.EvalViews.{view_op}
use Rattle.semver.specs.declared.Op.TheVariants as op
use Rattle.semver.specs.Parse.{Held, Parts}
use Rattle.rustsec_values.specs.Reading.{only_if}
use Rattle.rustsec_versions.specs.interval.Interval.{Endpoint, Interval, holds, is_after, is_before, unbounded}
use Rattle.rustsec_versions.specs.order.Precedence.{fits, is_at_most, is_below, least_of}
use Rattle.rustsec_versions.specs.requirement.Requirement.{Side, interval_of, lower, base_version, neither, of_one, of_sides, side_of, stated, up_to, upper}
use Rattle.rustsec_versions.specs.Matching.{Agree, with_zeros}
use Rattle.rustsec_versions.proofs.Releases as release
use Rattle.rustsec_versions.proofs.MatchedRequirements.{AgreeOn, admitted-is, and-swap, and-true, both, given, none-or-some, of-one, of-release, of-two, some-same}

-- whether a comparator matches a release, with zeros for its missing numbers
abbrev pub view_zeros : Held → Parts → Bool
view_zeros c v = view_op (with_zeros c).0 (with_zeros c) v

pub same-start : (s t : Endpoint) → lower s ≡ lower t → s ≡ t
same-start s t h = cc h

pub same-end : (s t : Endpoint) → upper s ≡ upper t → s ≡ t
same-end s t h = cc h

-- an interval with an end that fits
mapped : {A : Type 0} (f : A → Interval) (b : Bool) (x : A) (i : Interval) → option_map f (only_if b (Some x)) ≡ Some i → f x ≡ i
mapped f true x i is = cc is
mapped f false x i is = cc is

module _ (v : Parts) (none : v.3 ≡ []) where
  -- ---- one comparator

  module _ (i : Interval) where
    -- the interval is the one that the operator gives
    at-end : (c : Held) (e : Parts) (b : Bool) → option_map (up_to (base_version c)) (only_if b (Some e)) ≡ Some i → AgreeOn c (up_to (base_version c) e) v → AgreeOn c i v
    at-end c e b is same = subst (λ j. AgreeOn c j v) (mapped (up_to (base_version c)) b e i is) same

    pub caret : (a : ℕ) (m n : Option ℕ) (p : List ℕ) → of_one op.Caret (op.Caret, a, m, n, p) ≡ Some i → AgreeOn (op.Caret, a, m, n, p) i v
    caret a None (Some n) p is = cc is
    caret (suc a) None None p is = at-end (op.Caret, suc a, None, None, p) (least_of (suc a + 1) 0 0) (fits (suc a + 1)) is (release.caret-one v none (suc a) p)
    caret zero None None p is = at-end (op.Caret, 0, None, None, p) (least_of 1 0 0) (fits 1) is (release.caret-one v none 0 p)
    caret (suc a) (Some b) None p is =
        at-end (op.Caret, suc a, Some b, None, p) (least_of (suc a + 1) 0 0) (fits (suc a + 1)) is (release.caret-two v none a b p)
    caret zero (Some zero) None p is = at-end (op.Caret, 0, Some 0, None, p) (least_of 0 1 0) (fits 1) is (release.caret-zero_two v none 0 p)
    caret zero (Some (suc b)) None p is =
        at-end (op.Caret, 0, Some (suc b), None, p) (least_of 0 (suc b + 1) 0) (fits (suc b + 1)) is (release.caret-zero_two v none (suc b) p)
    caret (suc a) (Some b) (Some n) p is =
        at-end (op.Caret, suc a, Some b, Some n, p) (least_of (suc a + 1) 0 0) (fits (suc a + 1)) is (release.caret-full v none a b n p)
    caret zero (Some (suc b)) (Some n) p is =
        at-end (op.Caret, 0, Some (suc b), Some n, p) (least_of 0 (suc b + 1) 0) (fits (suc b + 1)) is (release.caret-zero_full v none b n p)
    caret zero (Some zero) (Some n) p is =
        at-end (op.Caret, 0, Some 0, Some n, p) (least_of 0 0 (n + 1)) (fits (n + 1)) is (release.caret-zeros_full v none n p)

    pub tilde : (a : ℕ) (m n : Option ℕ) (p : List ℕ) → of_one op.Tilde (op.Tilde, a, m, n, p) ≡ Some i → AgreeOn (op.Tilde, a, m, n, p) i v
    tilde a None (Some n) p is = cc is
    tilde a None None p is = at-end (op.Tilde, a, None, None, p) (least_of (a + 1) 0 0) (fits (a + 1)) is (release.tilde-one v none a p)
    tilde a (Some b) None p is = at-end (op.Tilde, a, Some b, None, p) (least_of a (b + 1) 0) (fits (b + 1)) is (release.tilde-two v none a b p)
    tilde a (Some b) (Some n) p is = at-end (op.Tilde, a, Some b, Some n, p) (least_of a (b + 1) 0) (fits (b + 1)) is (release.tilde-full v none a b n p)

    along : (c : Held) (j : Interval) → Some j ≡ Some i → holds j v ≡ view_zeros c v → holds i v ≡ view_zeros c v
    along c j is same = subst (λ (k : Interval). holds k v ≡ view_zeros c v) (some-same j i is) same

    pub one-zeros : (c : Held) → of_one c.0 c ≡ Some i → holds i v ≡ view_zeros c v
    one-zeros (op.Greater, a, m, n, p) is =
        along (op.Greater, a, m, n, p) _ is
        (and-true (is_below (a, unwrap_or m 0, unwrap_or n 0, p, []) v) ∙ release.greater-full v none a (unwrap_or m 0) (unwrap_or n 0) p)
    one-zeros (op.GreaterEq, a, m, n, p) is =
        along (op.GreaterEq, a, m, n, p) _ is
        (and-true (is_at_most (a, unwrap_or m 0, unwrap_or n 0, p, []) v) ∙ release.at_least-full v none a (unwrap_or m 0) (unwrap_or n 0) p)
    one-zeros (op.Less, a, m, n, p) is = along (op.Less, a, m, n, p) _ is (release.less-full v none a (unwrap_or m 0) (unwrap_or n 0) p)
    one-zeros (op.LessEq, a, m, n, p) is = along (op.LessEq, a, m, n, p) _ is (release.at_most-full v none a (unwrap_or m 0) (unwrap_or n 0) p)
    one-zeros (op.Exact, a, m, n, p) is = along (op.Exact, a, m, n, p) _ is (release.exact-full v none a (unwrap_or m 0) (unwrap_or n 0) p)
    one-zeros (op.Caret, a, m, n, p) is = caret a m n p is
    one-zeros (op.Tilde, a, m, n, p) is = tilde a m n p is
    one-zeros (op.Wildcard, a, m, n, p) is = cc is

  -- ---- a start and an end

  start-zeros : (c : Held) (s : Endpoint) → side_of c.0 c ≡ lower s → is_after s v ≡ view_zeros c v
  start-zeros (op.Greater, a, m, n, p) s is =
      subst (λ t. is_after t v ≡ view_zeros (op.Greater, a, m, n, p) v) (same-start _ s is) (release.greater-full v none a (unwrap_or m 0) (unwrap_or n 0) p)
  start-zeros (op.GreaterEq, a, m, n, p) s is =
      subst (λ t. is_after t v ≡ view_zeros (op.GreaterEq, a, m, n, p) v) (same-start _ s is) (release.at_least-full v none a (unwrap_or m 0) (unwrap_or n 0) p)
  start-zeros (op.Less, a, m, n, p) s is = cc is
  start-zeros (op.LessEq, a, m, n, p) s is = cc is
  start-zeros (op.Exact, a, m, n, p) s is = cc is
  start-zeros (op.Caret, a, m, n, p) s is = cc is
  start-zeros (op.Tilde, a, m, n, p) s is = cc is
  start-zeros (op.Wildcard, a, m, n, p) s is = cc is

  end-zeros : (c : Held) (e : Endpoint) → side_of c.0 c ≡ upper e → is_before e v ≡ view_zeros c v
  end-zeros (op.Less, a, m, n, p) e is =
      subst (λ t. is_before t v ≡ view_zeros (op.Less, a, m, n, p) v) (same-end _ e is) (release.less-full v none a (unwrap_or m 0) (unwrap_or n 0) p)
  end-zeros (op.LessEq, a, m, n, p) e is =
      subst (λ t. is_before t v ≡ view_zeros (op.LessEq, a, m, n, p) v) (same-end _ e is) (release.at_most-full v none a (unwrap_or m 0) (unwrap_or n 0) p)
  end-zeros (op.Greater, a, m, n, p) e is = cc is
  end-zeros (op.GreaterEq, a, m, n, p) e is = cc is
  end-zeros (op.Exact, a, m, n, p) e is = cc is
  end-zeros (op.Caret, a, m, n, p) e is = cc is
  end-zeros (op.Tilde, a, m, n, p) e is = cc is
  end-zeros (op.Wildcard, a, m, n, p) e is = cc is

  abbrev SameTwo : Held → Held → Interval → Type 0
  SameTwo c d i = holds i v ≡ (view_zeros c v && view_zeros d v)

  two-zeros : (c d : Held) (i : Interval) (a b : Side) → side_of c.0 c ≡ a → side_of d.0 d ≡ b → of_sides a b ≡ Some i → SameTwo c d i
  two-zeros c d i (lower s) (upper e) is also same =
      subst (λ (j : Interval). SameTwo c d j) (some-same (record { start = s; end = e }) i same)
      (both (is_after s v) (is_before e v) (view_zeros c v) (view_zeros d v) (start-zeros c s is) (end-zeros d e also))
  two-zeros c d i (upper e) (lower s) is also same =
      subst (λ (j : Interval). SameTwo c d j) (some-same (record { start = s; end = e }) i same)
      (both (is_after s v) (is_before e v) (view_zeros d v) (view_zeros c v) (start-zeros d s also) (end-zeros c e is) ∙ and-swap (view_zeros d v) (view_zeros c v))
  two-zeros c d i (lower s) (lower t) is also same = cc same
  two-zeros c d i (lower s) neither is also same = cc same
  two-zeros c d i (upper e) (upper f) is also same = cc same
  two-zeros c d i (upper e) neither is also same = cc same
  two-zeros c d i neither b is also same = cc same

  -- ---- a requirement

  pub zeros : (cs : List Held) (i : Interval) → interval_of cs ≡ Some i → Agree (map with_zeros cs) i v
  zeros [] i is =
      let found = admitted-is (stated []) i is in
      let same = some-same (record { start = unbounded; end = unbounded }) i found.0 in
      subst (λ (j : Interval). Agree [] j v) same (sym (of-release [] v none))
  zeros (c ∷ []) i is =
      let found = admitted-is (stated (c ∷ [])) i is in
      one-zeros i c (given _ _ i found.0) ∙ sym (of-one (with_zeros c) v none)
  zeros (c ∷ d ∷ []) i is =
      let found = admitted-is (stated (c ∷ d ∷ [])) i is in
      two-zeros c d i (side_of c.0 c) (side_of d.0 d) refl refl (given _ _ i found.0) ∙ sym (of-two (with_zeros c) (with_zeros d) v none)
  zeros (c ∷ d ∷ e ∷ rest) i is =
      let found = admitted-is (stated (c ∷ d ∷ e ∷ rest)) i is in
      let none_three : None ≡ Some i = given _ _ i found.0 in
      none-or-some i none_three
