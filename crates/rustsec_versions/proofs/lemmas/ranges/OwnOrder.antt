-- Ranges whose sides have no build metadata hold the same versions in precedence and in the order of `Version`.
use Rattle.std.proofs.Common.{◌≡◌, ℕ, true, false, List, [], ◌∷◌, Option, Some, None, map, refl, arith}
use Rattle.std.specs.List.{list_any}
use Rattle.std.specs.Cmp.Lexicographic.{slice_cmp}
use Rattle.std.specs.Ordering.{is_le, is_lt, nat_cmp, ordering_reverse, ordering_then}
use Rattle.std.specs.declared.cmp.Ordering.{Ordering}
use Rattle.std.specs.declared.cmp.Ordering.TheVariants.{Less, Equal, Greater}
use Rattle.std.proofs.lemmas.Bool.Decides.{nat_tests}
use Rattle.semver.specs.Order.{build_cmp, build_part_cmp, numeric_len, part_class, pre_cmp, strip_zeros, value_len, without_zeros}
use Rattle.semver.specs.OrderLaws.{build_total, parts-shape}
use Rattle.semver.specs.Parse.{Parts}
use Rattle.rustsec_versions.specs.ranges.Complement.{cut, gap_before, complement_beyond, complement_from}
use Rattle.rustsec_versions.specs.interval.Interval.{Interval}
use Rattle.rustsec_versions.specs.order.Precedence.{precedence, version_order}
use Rattle.rustsec_versions.specs.ranges.Ranges.{Range, affects, in_range, in_ranges}
use Rattle.rustsec_versions.proofs.lemmas.acceptance.Clashes.{AllSound}
use Rattle.rustsec_versions.proofs.lemmas.order.LeastAbove.{le-then}
use Rattle.rustsec_versions.proofs.lemmas.ranges.Unique.{lower-plain, upper-plain}

-- ---- no build is the lowest

zero-le : (n : ℕ) → is_le (nat_cmp 0 n) ≡ true
zero-le n = grind (arith, nat_tests)

nothing-le : (xs : List ℕ) → is_le (slice_cmp nat_cmp [] xs) ≡ true
nothing-le [] = refl
nothing-le (x ∷ xs) = refl

no_parts-le : (ps : List (List ℕ)) → is_le (slice_cmp build_part_cmp [] ps) ≡ true
no_parts-le [] = refl
no_parts-le (p ∷ ps) = refl

empty_part-le : (p : List ℕ) → is_le (build_part_cmp [] p) ≡ true
unfolding strip_zeros
empty_part-le p =
    le-then (nat_cmp 0 (part_class p)) _ (zero-le (part_class p)) (le-then (nat_cmp 0 (value_len p)) _ (zero-le (value_len p))
    (le-then (slice_cmp nat_cmp [] (without_zeros p)) _ (nothing-le (without_zeros p)) (zero-le (numeric_len p))))

no_build-le : (b : List ℕ) → is_le (build_cmp [] b) ≡ true
no_build-le b =
    let shape = parts-shape b in
    let first : is_le (slice_cmp build_part_cmp ([] ∷ []) (shape.0 ∷ shape.1)) ≡ true = le-then _ _ (empty_part-le shape.0) (no_parts-le shape.1) in
    rw shape.2 first

le-reversed : (o : Ordering) → is_le o ≡ true → is_lt (ordering_reverse o) ≡ false
le-reversed Less h = refl
le-reversed Equal h = refl
le-reversed Greater h = cc h

no_build-not_above : (b : List ℕ) → is_lt (build_cmp b []) ≡ false
no_build-not_above b = rw (build_total.antisymm b []) (le-reversed (build_cmp [] b) (no_build-le b))

-- ---- the two orders

le-compared : (o s t : Ordering) → is_le s ≡ is_le t → is_le (ordering_then o s) ≡ is_le (ordering_then o t)
le-compared Less s t h = refl
le-compared Equal s t h = h
le-compared Greater s t h = refl

le-last : (o b : Ordering) → is_le b ≡ true → is_le (ordering_then o b) ≡ is_le o
le-last Less b h = refl
le-last Equal b h = h
le-last Greater b h = refl

lt-compared : (o s t : Ordering) → is_lt s ≡ is_lt t → is_lt (ordering_then o s) ≡ is_lt (ordering_then o t)
lt-compared Less s t h = refl
lt-compared Equal s t h = h
lt-compared Greater s t h = refl

lt-last : (o b : Ordering) → is_lt b ≡ false → is_lt (ordering_then o b) ≡ is_lt o
lt-last Less b h = refl
lt-last Equal b h = h
lt-last Greater b h = refl

from-same : (a v : Parts) → a.4 ≡ [] → is_le (version_order a v) ≡ is_le (precedence a v)
from-same a v plain =
    let last : is_le (build_cmp a.4 v.4) ≡ true = rw plain (no_build-le v.4) in
    le-compared (nat_cmp a.0 v.0) _ _ (le-compared (nat_cmp a.1 v.1) _ _ (le-compared (nat_cmp a.2 v.2) _ _ (le-last (pre_cmp a.3 v.3) (build_cmp a.4 v.4) last)))

till-same : (v b : Parts) → b.4 ≡ [] → is_lt (version_order v b) ≡ is_lt (precedence v b)
till-same v b plain =
    let last : is_lt (build_cmp v.4 b.4) ≡ false = rw plain (no_build-not_above v.4) in
    lt-compared (nat_cmp v.0 b.0) _ _ (lt-compared (nat_cmp v.1 b.1) _ _ (lt-compared (nat_cmp v.2 b.2) _ _ (lt-last (pre_cmp v.3 b.3) (build_cmp v.4 b.4) last)))

-- ---- ranges

abbrev IsPlainSide : Option Parts → Type 0
IsPlainSide None = Unit {0}
IsPlainSide (Some v) = v.4 ≡ []

abbrev IsPlainRange : Range → Type 0
IsPlainRange r = IsPlainSide r.introduced × IsPlainSide r.fixed

abbrev ArePlain : List Range → Type 0
ArePlain [] = Unit {0}
ArePlain (r ∷ rs) = IsPlainRange r × ArePlain rs

affects-same : (i f : Option Parts) (v : Parts) → IsPlainSide i → IsPlainSide f
    → affects (record { introduced = i; fixed = f }) v ≡ in_range (record { introduced = i; fixed = f }) v
affects-same None None v p q = refl
affects-same None (Some f) v p q = rw (till-same v f q) refl
affects-same (Some i) None v p q = rw (from-same i v p) refl
affects-same (Some i) (Some f) v p q = rw (from-same i v p, till-same v f q) refl

pub all-affect : (rs : List Range) (v : Parts) → ArePlain rs → list_any (λ r. affects r v) rs ≡ in_ranges rs v
all-affect [] v p = refl
all-affect (r ∷ rs) v p = rw (affects-same r.introduced r.fixed v p.0.0 p.0.1, all-affect rs v p.1) refl

plain_step : (from lo up : Option Parts) (rest : List Range) → IsPlainSide from → IsPlainSide lo → ArePlain rest → ArePlain (gap_before from lo (complement_beyond up rest))
plain_step from None None rest p q r = tt
plain_step from None (Some u) rest p q r = r
plain_step from (Some l) None rest p q r = ((p, q), tt)
plain_step from (Some l) (Some u) rest p q r = ((p, q), r)

pub complement-plain : (from : Option Parts) (cs : List Range) → IsPlainSide from → ArePlain cs → ArePlain (complement_from from cs)
unfolding complement_from
complement-plain from [] p q = ((p, tt), tt)
complement-plain from (c ∷ cs) p q = plain_step from c.introduced c.fixed (complement_from c.fixed cs) p q.0.0 (complement-plain c.fixed cs q.0.1 q.1)

side-plain : (o : Option Parts) → ((v : Parts) → o ≡ Some v → v.4 ≡ []) → IsPlainSide o
side-plain None h = tt
side-plain (Some v) h = h v refl

pub cuts-plain : (is : List Interval) → AllSound is → ArePlain (map cut is)
cuts-plain [] a = tt
cuts-plain (i ∷ is) a = ((side-plain _ (lower-plain i.start a.0.start), side-plain _ (upper-plain i.end a.0.end)), cuts-plain is a.1)
