-- Which requirements Cargo's matching reads as they are read here, and which it does not.
use Rattle.std.proofs.Common.{◌≡◌, ◌∙◌, ◌<◌, ◌^◌, ℕ, map, Bool, List, [], ◌∷◌, None, Some, false, true, arith, get_or, refl, subst, sym}
use Rattle.std.specs.Prelude.{◌&&◌, not, unwrap_or}
use Rattle.std.specs.List.{All, list_all}
use Rattle.std.proofs.lemmas.Bool.Decides.{nat_tests}
use Rattle.std.proofs.lemmas.List.Elements.{All-head, All-tail}
use Rattle.semver.specs.EvalViews.{view_op}
use Rattle.semver.specs.Grammar.{is_pre_release}
use Rattle.semver.specs.declared.Op.TheVariants as op
use Rattle.semver.specs.Parse.{Held, Parts}
use Rattle.rustsec_versions.specs.interval.Interval.{Interval}
use Rattle.rustsec_versions.specs.requirement.Requirement.{interval_of, names_version, of_comparators, stated}
use Rattle.rustsec_versions.specs.order.Precedence.{fits}
use Rattle.rustsec_versions.proofs.lemmas.requirement.Sound.{and-first, and-second, fits-below, only_if-true}
use Rattle.rustsec_versions.specs.Matching.{IsDifference, IsReadAlike, IsReadAs, IsRelease, IsWhole, LeavesLast, first_patch, is_greater, is_read_differently, needs_patch, with_zeros}
use Rattle.rustsec_versions.proofs.Releases as release
use Rattle.rustsec_versions.proofs.MatchedRequirements.{admitted-is, both, of-one, of-release}
use Rattle.rustsec_versions.proofs.Zeros.{one-zeros, view_zeros, zeros}

-- a requirement is read as the same one with zeros
pub as-zeros : (cs : List Held) → IsReadAs cs (map with_zeros cs)
as-zeros cs = λ i is v release. zeros v release.none cs i is

-- ---- comparators that are read alike

module _ (v : Parts) (none : v.3 ≡ []) where
  -- a comparator and the one with zeros match the same
  abbrev Same : Held → Type 0
  Same c = view_zeros c v ≡ view_op c.0 c v

  -- a comparator without a patch has an empty pre-release
  plain : (c : List ℕ → Held) (p : List ℕ) → p ≡ [] → Same (c []) → Same (c p)
  plain c p is same = subst (λ (q : List ℕ). Same (c q)) (sym is) same

  same-zeros : (c : Held) → LeavesLast c → IsReadAlike c → Same c
  same-zeros (op.Greater, a, Some b, Some n, p) last alike = refl
  same-zeros (op.Greater, a, None, Some n, p) last alike = cc (last.patch refl)
  same-zeros (op.Greater, a, m, None, p) last alike = cc alike
  same-zeros (op.LessEq, a, Some b, Some n, p) last alike = refl
  same-zeros (op.LessEq, a, None, Some n, p) last alike = cc (last.patch refl)
  same-zeros (op.LessEq, a, m, None, p) last alike = cc alike
  same-zeros (op.Exact, a, Some b, Some n, p) last alike = refl
  same-zeros (op.Exact, a, None, Some n, p) last alike = cc (last.patch refl)
  same-zeros (op.Exact, a, m, None, p) last alike = cc alike
  same-zeros (op.GreaterEq, a, Some b, Some n, p) last alike = refl
  same-zeros (op.GreaterEq, a, None, Some n, p) last alike = cc (last.patch refl)
  same-zeros (op.GreaterEq, a, Some b, None, p) last alike =
      plain (λ q. (op.GreaterEq, a, Some b, None, q)) p (last.pre refl) (sym (release.at_least-full v none a b 0 []) ∙ release.at_least-two v none a b)
  same-zeros (op.GreaterEq, a, None, None, p) last alike =
      plain (λ q. (op.GreaterEq, a, None, None, q)) p (last.pre refl) (sym (release.at_least-full v none a 0 0 []) ∙ release.at_least-one v none a)
  same-zeros (op.Less, a, Some b, Some n, p) last alike = refl
  same-zeros (op.Less, a, None, Some n, p) last alike = cc (last.patch refl)
  same-zeros (op.Less, a, Some b, None, p) last alike =
      plain (λ q. (op.Less, a, Some b, None, q)) p (last.pre refl) (sym (release.less-full v none a b 0 []) ∙ release.less-two v none a b)
  same-zeros (op.Less, a, None, None, p) last alike =
      plain (λ q. (op.Less, a, None, None, q)) p (last.pre refl) (sym (release.less-full v none a 0 0 []) ∙ release.less-one v none a)
  same-zeros (op.Caret, a, m, n, p) last alike = refl
  same-zeros (op.Tilde, a, m, n, p) last alike = refl
  same-zeros (op.Wildcard, a, m, n, p) last alike = refl

  all-same : (cs : List Held) → All LeavesLast cs → All IsReadAlike cs → list_all (λ c. view_op c.0 c v) (map with_zeros cs) ≡ list_all (λ c. view_op c.0 c v) cs
  all-same [] last alike = refl
  all-same (c ∷ rest) last alike =
      both (view_zeros c v) (list_all (λ d. view_op d.0 d v) (map with_zeros rest)) (view_op c.0 c v) (list_all (λ d. view_op d.0 d v) rest)
      (same-zeros c (All-head LeavesLast c rest last) (All-head IsReadAlike c rest alike))
      (all-same rest (All-tail LeavesLast c rest last) (All-tail IsReadAlike c rest alike))

pub as-written : (cs : List Held) → All LeavesLast cs → All IsReadAlike cs → IsReadAs cs cs
as-written cs last alike = λ i is v release.
    zeros v release.none cs i is ∙ (of-release (map with_zeros cs) v release.none ∙ (all-same v release.none cs last alike ∙ sym (of-release cs v release.none)))

-- ---- comparators with three numbers

and-false : (a : Bool) → (a && false) ≡ false
and-false true = refl
and-false false = refl

whole-last : (c : Held) → IsWhole c → LeavesLast c
whole-last (o, a, Some b, Some n, p) whole = record { patch = λ is. cc is; pre = λ is. cc is }
whole-last (o, a, None, n, p) whole = cc (whole.minor)
whole-last (o, a, Some b, None, p) whole = cc (whole.patch)

whole-alike : (c : Held) → IsWhole c → IsReadAlike c
whole-alike (o, a, m, Some n, p) whole = and-false (needs_patch o)
whole-alike (o, a, m, None, p) whole = cc (whole.patch)

pub all-last : (cs : List Held) → All IsWhole cs → All LeavesLast cs
all-last cs whole = λ k d within. whole-last (get_or cs k d) (whole k d within)

all-alike : (cs : List Held) → All IsWhole cs → All IsReadAlike cs
all-alike cs whole = λ k d within. whole-alike (get_or cs k d) (whole k d within)

pub as-whole : (cs : List Held) → All IsWhole cs → IsReadAs cs cs
as-whole cs whole = as-written cs (all-last cs whole) (all-alike cs whole)

-- ---- one comparator that is read differently

-- with zeros
zeros-greater : (a b : ℕ) (p : List ℕ) → view_op op.Greater (op.Greater, a, Some b, Some 0, p) (a, b, 1, [], []) ≡ true
zeros-greater a b p = grind (arith, nat_tests)

zeros-at_most : (a b : ℕ) (p : List ℕ) → view_op op.LessEq (op.LessEq, a, Some b, Some 0, p) (a, b, 1, [], []) ≡ false
zeros-at_most a b p = grind (arith, nat_tests)

zeros-exact : (a b : ℕ) (p : List ℕ) → view_op op.Exact (op.Exact, a, Some b, Some 0, p) (a, b, 1, [], []) ≡ false
zeros-exact a b p = grind (arith, nat_tests)

-- as it is
greater-two : (a b : ℕ) (p : List ℕ) → view_op op.Greater (op.Greater, a, Some b, None, p) (a, b, 1, [], []) ≡ false
greater-two a b p = grind (arith, nat_tests)

greater-one : (a : ℕ) (p : List ℕ) → view_op op.Greater (op.Greater, a, None, None, p) (a, 0, 1, [], []) ≡ false
greater-one a p = grind (arith, nat_tests)

at_most-two : (a b : ℕ) → view_op op.LessEq (op.LessEq, a, Some b, None, []) (a, b, 1, [], []) ≡ true
at_most-two a b = grind (arith, nat_tests)

at_most-one : (a : ℕ) → view_op op.LessEq (op.LessEq, a, None, None, []) (a, 0, 1, [], []) ≡ true
at_most-one a = grind (arith, nat_tests)

exact-two : (a b : ℕ) → view_op op.Exact (op.Exact, a, Some b, None, []) (a, b, 1, [], []) ≡ true
exact-two a b = grind (arith, nat_tests)

exact-one : (a : ℕ) → view_op op.Exact (op.Exact, a, None, None, []) (a, 0, 1, [], []) ≡ true
exact-one a = grind (arith, nat_tests)

abbrev IsMatched : Held → Type 0
IsMatched c = view_op c.0 c (first_patch c) ≡ not (is_greater c.0)

plain-matched : (c : List ℕ → Held) (p : List ℕ) → p ≡ [] → IsMatched (c []) → IsMatched (c p)
plain-matched c p is same = subst (λ (q : List ℕ). IsMatched (c q)) (sym is) same

differs-zeros : (c : Held) → is_read_differently c ≡ true → view_zeros c (first_patch c) ≡ is_greater c.0
differs-zeros (op.Greater, a, m, None, p) differs = zeros-greater a (unwrap_or m 0) p
differs-zeros (op.LessEq, a, m, None, p) differs = zeros-at_most a (unwrap_or m 0) p
differs-zeros (op.Exact, a, m, None, p) differs = zeros-exact a (unwrap_or m 0) p
differs-zeros (op.Greater, a, m, Some n, p) differs = cc differs
differs-zeros (op.LessEq, a, m, Some n, p) differs = cc differs
differs-zeros (op.Exact, a, m, Some n, p) differs = cc differs
differs-zeros (op.GreaterEq, a, m, n, p) differs = cc differs
differs-zeros (op.Less, a, m, n, p) differs = cc differs
differs-zeros (op.Caret, a, m, n, p) differs = cc differs
differs-zeros (op.Tilde, a, m, n, p) differs = cc differs
differs-zeros (op.Wildcard, a, m, n, p) differs = cc differs

differs-matched : (c : Held) → LeavesLast c → is_read_differently c ≡ true → IsMatched c
differs-matched (op.Greater, a, Some b, None, p) last differs = greater-two a b p
differs-matched (op.Greater, a, None, None, p) last differs = greater-one a p
differs-matched (op.LessEq, a, Some b, None, p) last differs = plain-matched (λ q. (op.LessEq, a, Some b, None, q)) p (last.pre refl) (at_most-two a b)
differs-matched (op.LessEq, a, None, None, p) last differs = plain-matched (λ q. (op.LessEq, a, None, None, q)) p (last.pre refl) (at_most-one a)
differs-matched (op.Exact, a, Some b, None, p) last differs = plain-matched (λ q. (op.Exact, a, Some b, None, q)) p (last.pre refl) (exact-two a b)
differs-matched (op.Exact, a, None, None, p) last differs = plain-matched (λ q. (op.Exact, a, None, None, q)) p (last.pre refl) (exact-one a)
differs-matched (op.Greater, a, m, Some n, p) last differs = cc differs
differs-matched (op.LessEq, a, m, Some n, p) last differs = cc differs
differs-matched (op.Exact, a, m, Some n, p) last differs = cc differs
differs-matched (op.GreaterEq, a, m, n, p) last differs = cc differs
differs-matched (op.Less, a, m, n, p) last differs = cc differs
differs-matched (op.Caret, a, m, n, p) last differs = cc differs
differs-matched (op.Tilde, a, m, n, p) last differs = cc differs
differs-matched (op.Wildcard, a, m, n, p) last differs = cc differs

one-fits : 1 < 2 ^ 64
one-fits = omega arith

-- the first patch is a version
named-release : (c : Held) → names_version c ≡ true → IsRelease (first_patch c)
named-release c h =
    let major : fits c.1 ≡ true = and-first _ _ h in
    let rest : (fits (unwrap_or c.2 0) && (fits (unwrap_or c.3 0) && is_pre_release c.4)) ≡ true = and-second _ _ h in
    let minor : fits (unwrap_or c.2 0) ≡ true = and-first _ _ rest in
    record {
      valid = record { major = fits-below _ major; minor = fits-below _ minor; patch = one-fits; pre = refl };
      none = refl;
    }

pub differs : (c : Held) (i : Interval) → LeavesLast c → is_read_differently c ≡ true → interval_of (c ∷ []) ≡ Some i
    → IsDifference (c ∷ []) i (first_patch c) (is_greater c.0)
differs c i last is_different is =
    let found = admitted-is (stated (c ∷ [])) i is in
    let names = only_if-true (list_all names_version (c ∷ [])) (of_comparators (c ∷ [])) i found.0 in
    let valid : names_version c ≡ true = and-first _ _ names.0 in
    record {
      release = named-release c valid;
      held = one-zeros (first_patch c) refl i c names.1 ∙ differs-zeros c is_different;
      matched = of-one c (first_patch c) refl ∙ differs-matched c last is_different;
    }
