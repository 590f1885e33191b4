-- Intervals have one list of ranges, whatever their order.
use Rattle.std.proofs.Common.{◌≡◌, ◌≢◌, ◌<◌, ◌+◌, ◌++◌, ℕ, Bool, true, false, cond, List, [], ◌∷◌, Option, Some, None, refl, sym, ap, ◌∙◌, arith, subst, inl, inr, IsPermutation}
use Rattle.std.specs.Prelude.{filter_map, is_none, sum_by}
use Rattle.std.specs.List.{cons_option, list_all}
use Rattle.std.specs.List.Sorted.{IsSorted}
use Rattle.std.specs.Ordering.{is_le, nat_cmp, ordering_reverse, ordering_then}
use Rattle.std.specs.declared.cmp.Ordering.{Ordering}
use Rattle.std.specs.declared.cmp.Ordering.TheVariants.{Less, Equal, Greater}
use Rattle.std.proofs.lemmas.Bool.{cases_Bool}
use Rattle.std.proofs.lemmas.Bool.Decides.{nat_tests}
use Rattle.std.proofs.lemmas.List.Sums.{sum_by-cons}
use Rattle.std.proofs.lemmas.List.Sorted.{IsPermutation-sym, IsPermutation-trans, sum_by-IsPermutation}
use Rattle.semver.specs.OrderLaws.{pre-anti}
use Rattle.semver.specs.Parse.{Parts}
use Rattle.rustsec_versions.specs.interval.Interval.{Endpoint, Interval, exclusive, has_bound, inclusive, unbounded}
use Rattle.rustsec_versions.specs.order.Precedence.{is_at_most, precedence}
use Rattle.rustsec_versions.specs.ranges.Ranges.{AreRanges, Range, is_followed, lower_cut, lower_cuts, upper_cut, upper_cuts, whole}
use Rattle.rustsec_versions.proofs.lemmas.acceptance.Clashes.{AllSound}
use Rattle.rustsec_versions.specs.EqualityLaws.{version_decides}
use Rattle.rustsec_versions.specs.Equality.{version_eq}
use Rattle.rustsec_versions.proofs.lemmas.order.LeastAbove.{successor-valid}
use Rattle.rustsec_versions.proofs.lemmas.order.PrecedenceLaws.{at_most-not_below, at_most-trans, below-weak, not_at_most, total}
use Rattle.rustsec_versions.proofs.lemmas.ranges.RangeEnds.{list_all-IsPermutation, one-IsPermutation}
use Rattle.rustsec_versions.proofs.lemmas.ranges.RangeList.{AllFollowed, followed-to}
use Rattle.rustsec_versions.proofs.lemmas.order.Rising.{Rises, Rises-from, Rises-tail}
use Rattle.rustsec_versions.proofs.lemmas.lists.Shuffled.{IsPermutation-filter_map, Shuffled, both, keep, same, shuffled, turn}
use Rattle.rustsec_versions.proofs.lemmas.requirement.Sound.{IsSoundEnd, some-same}

-- ---- versions without build that tie in precedence are equal

then-Equal : (o r : Ordering) → ordering_then o r ≡ Equal → (o ≡ Equal) × (r ≡ Equal)
then-Equal Less r h = cc h
then-Equal Equal r h = (refl, h)
then-Equal Greater r h = cc h

number-same : (a b : ℕ) → nat_cmp a b ≡ Equal → a ≡ b
number-same a b h = grind (arith, nat_tests)

both-le : (o r : Ordering) → is_le o ≡ true → is_le r ≡ true → r ≡ ordering_reverse o → o ≡ Equal
both-le Less r h k e = cc (rw e at k)
both-le Equal r h k e = refl
both-le Greater r h k e = cc h

pub at_most-same : (a b : Parts) → a.4 ≡ [] → b.4 ≡ [] → is_at_most a b ≡ true → is_at_most b a ≡ true → a ≡ b
at_most-same a b p q h k =
    let tie = both-le (precedence a b) (precedence b a) h k (total.antisymm b a) in
    let (first, rest) = then-Equal _ _ tie in
    let (second, more) = then-Equal _ _ rest in
    let (third, last) = then-Equal _ _ more in
    let x = number-same a.0 b.0 first in
    let y = number-same a.1 b.1 second in
    let z = number-same a.2 b.2 third in
    let pre = pre-anti a.3 b.3 last in
    λ i. (x i, y i, z i, pre i, (p ∙ sym q) i)

-- ---- rising lists with the same versions, each as often

abbrev AllPlain : List Parts → Type 0
AllPlain [] = Unit {0}
AllPlain (v ∷ vs) = (v.4 ≡ []) × AllPlain vs

abbrev one_if : Parts → Parts → ℕ
one_if c v = cond (version_eq v c) 1 0

abbrev occurs : Parts → List Parts → ℕ
occurs c vs = sum_by (one_if c) vs

occurs-cons : (c v : Parts) (vs : List Parts) → occurs c (v ∷ vs) ≡ one_if c v + occurs c vs
occurs-cons c v vs = sum_by-cons (one_if c) v vs

one-self : (v : Parts) → one_if v v ≡ 1
one-self v = rw ((version_decides v v).1 refl) refl

at_most-self : (v : Parts) → is_at_most v v ≡ true
at_most-self v = elim (cases_Bool (is_at_most v v)) [
  | inl fine ↦ fine
  | inr other ↦ let low = not_at_most v v other in cc (sym low ∙ at_most-not_below v v (below-weak v v low))
]

-- what occurs in a rising list is at least its first
occurs-above : (c v : Parts) (vs : List Parts) → Rises (v ∷ vs) → 0 < occurs c (v ∷ vs) → is_at_most v c ≡ true
occurs-above c v [] r h = elim (cases_Bool (version_eq v c)) [
  | inl fine ↦ rw ((version_decides v c).0 fine) (at_most-self c)
  | inr other ↦ let here : one_if c v ≡ 0 = rw other refl in absurd (omega (arith, occurs-cons c v [], here, h))
]
occurs-above c v (w ∷ ws) r h = elim (cases_Bool (version_eq v c)) [
  | inl fine ↦ rw ((version_decides v c).0 fine) (at_most-self c)
  | inr other ↦
      let here : one_if c v ≡ 0 = rw other refl in
      at_most-trans v w c r.0 (occurs-above c w ws r.1 (omega (arith, occurs-cons c v (w ∷ ws), here, h)))
]

sorted-same : (xs ys : List Parts) → AllPlain xs → AllPlain ys → Rises xs → Rises ys → ((c : Parts) → occurs c xs ≡ occurs c ys) → xs ≡ ys
sorted-same [] [] p q r s h = refl
sorted-same [] (y ∷ ys) p q r s h = absurd (omega (arith, h y, occurs-cons y y ys, one-self y))
sorted-same (x ∷ xs) [] p q r s h = absurd (omega (arith, h x, occurs-cons x x xs, one-self x))
sorted-same (x ∷ xs) (y ∷ ys) p q r s h =
    let low = occurs-above x y ys s (omega (arith, h x, occurs-cons x x xs, one-self x)) in
    let high = occurs-above y x xs r (omega (arith, h y, occurs-cons y y ys, one-self y)) in
    let first = at_most-same x y p.0 q.0 high low in
    let rest = sorted-same xs ys p.1 q.1 (Rises-tail x xs r) (Rises-tail y ys s)
    (λ c. let e : one_if c x ≡ one_if c y = ap (one_if c) first in omega (arith, h c, occurs-cons c x xs, occurs-cons c y ys, e)) in
    λ i. first i ∷ rest i

-- ---- cuts have no build

plain_option : (o : Option Parts) (vs : List Parts) → ((v : Parts) → o ≡ Some v → v.4 ≡ []) → AllPlain vs → AllPlain (cons_option o vs)
plain_option None vs h a = a
plain_option (Some v) vs h a = (h v refl, a)

some-is : (v w : Parts) → Some v ≡ Some w → v.4 ≡ [] → w.4 ≡ []
some-is v w e h = subst (λ (x : Parts). x.4 ≡ []) (some-same v w e) h

pub lower-plain : (s : Endpoint) → IsSoundEnd s → (v : Parts) → lower_cut s ≡ Some v → v.4 ≡ []
lower-plain unbounded h v e = cc e
lower-plain (inclusive w) h v e = some-is w v e h.plain
lower-plain (exclusive w) h v e = (successor-valid w v h.version e).1

pub upper-plain : (s : Endpoint) → IsSoundEnd s → (v : Parts) → upper_cut s ≡ Some v → v.4 ≡ []
upper-plain unbounded h v e = cc e
upper-plain (exclusive w) h v e = some-is w v e h.plain
upper-plain (inclusive w) h v e = (successor-valid w v h.version e).1

lower_cuts-plain : (is : List Interval) → AllSound is → AllPlain (lower_cuts is)
lower_cuts-plain [] a = tt
lower_cuts-plain (i ∷ is) a = plain_option (lower_cut i.start) (lower_cuts is) (lower-plain i.start a.0.start) (lower_cuts-plain is a.1)

upper_cuts-plain : (is : List Interval) → AllSound is → AllPlain (upper_cuts is)
upper_cuts-plain [] a = tt
upper_cuts-plain (i ∷ is) a = plain_option (upper_cut i.end) (upper_cuts is) (upper-plain i.end a.0.end) (upper_cuts-plain is a.1)

plain_shuffled : {xs ys : List Parts} → Shuffled xs ys → AllPlain xs → AllPlain ys
plain_shuffled (same xs) a = a
plain_shuffled (keep x s) a = (a.0, plain_shuffled s a.1)
plain_shuffled (turn x y xs) a = (a.1.0, (a.0, a.1.1))
plain_shuffled (both s t) a = plain_shuffled t (plain_shuffled s a)

-- two rising lists with the elements of a list without build
rising-same : (cuts xs ys : List Parts) → AllPlain cuts → IsPermutation cuts xs → IsPermutation cuts ys → IsSorted precedence xs → IsSorted precedence ys → xs ≡ ys
rising-same cuts xs ys a p q r s =
    sorted-same xs ys (plain_shuffled (shuffled cuts xs p) a) (plain_shuffled (shuffled cuts ys q) a) (Rises-from xs r) (Rises-from ys s)
    (λ c. sum_by-IsPermutation (one_if c) cuts xs p ∙ sym (sum_by-IsPermutation (one_if c) cuts ys q))

-- ---- ranges with the same sides

option_lists : {X : Type 0} (o u : Option X) (xs ys : List X) → is_none o ≡ is_none u → cons_option o xs ≡ cons_option u ys → (o ≡ u) × (xs ≡ ys)
option_lists None None xs ys h e = (refl, e)
option_lists None (Some u) xs ys h e = cc h
option_lists (Some o) None xs ys h e = cc h
option_lists (Some o) (Some u) xs ys h e = (cc e, cc e)

option_there : {X : Type 0} (o : Option X) (xs : List X) → is_none o ≡ false → [] ≢ cons_option o xs
option_there None xs h e = cc h
option_there (Some o) xs h e = cc e

followed-there : (f i : Option Parts) → is_followed f i ≡ true → (is_none f ≡ false) × (is_none i ≡ false)
followed-there None i h = cc h
followed-there (Some f) None h = cc h
followed-there (Some f) (Some i) h = (refl, refl)

abbrev introductions : List Range → List Parts
introductions rs = filter_map (λ r. r.introduced) rs

abbrev fixes : List Range → List Parts
fixes rs = filter_map (λ r. r.fixed) rs

abbrev Ends : Bool → List Range → Type 0
Ends b rs = (r : Range) (front : List Range) → rs ≡ front ++ r ∷ [] → is_none r.fixed ≡ b

ends-tail : (b : Bool) (x : Range) (rs : List Range) → Ends b (x ∷ rs) → Ends b rs
ends-tail b x rs h r front e = h r (x ∷ front) (ap (λ (l : List Range). x ∷ l) e)

range_is : (r s : Range) → r.introduced ≡ s.introduced → r.fixed ≡ s.fixed → r ≡ s
range_is r s h k = λ n. record { introduced = h n; fixed = k n }

ranges-same : (b : Bool) (r s : Range) (rs ss : List Range) → AllFollowed (r ∷ rs) → AllFollowed (s ∷ ss) → introductions (r ∷ rs) ≡ introductions (s ∷ ss)
    → fixes (r ∷ rs) ≡ fixes (s ∷ ss) → is_none r.introduced ≡ is_none s.introduced → Ends b (r ∷ rs) → Ends b (s ∷ ss) → r ∷ rs ≡ s ∷ ss
ranges-same b r s [] [] f g h k n x y =
    let i = option_lists r.introduced s.introduced [] [] n h in
    let t = option_lists r.fixed s.fixed [] [] (x r [] refl ∙ sym (y s [] refl)) k in
    ap (λ (z : Range). z ∷ []) (range_is r s i.0 t.0)
ranges-same b r s [] (t ∷ ss) f g h k n x y =
    let i = option_lists r.introduced s.introduced [] (introductions (t ∷ ss)) n h in
    absurd (option_there t.introduced (introductions ss) ((followed-there s.fixed t.introduced g.0).1) i.1)
ranges-same b r s (t ∷ rs) [] f g h k n x y =
    let i = option_lists r.introduced s.introduced (introductions (t ∷ rs)) [] n h in
    absurd (option_there t.introduced (introductions rs) ((followed-there r.fixed t.introduced f.0).1) (sym i.1))
ranges-same b r s (t ∷ rs) (u ∷ ss) f g h k n x y =
    let one = followed-there r.fixed t.introduced f.0 in
    let two = followed-there s.fixed u.introduced g.0 in
    let i = option_lists r.introduced s.introduced (introductions (t ∷ rs)) (introductions (u ∷ ss)) n h in
    let j = option_lists r.fixed s.fixed (fixes (t ∷ rs)) (fixes (u ∷ ss)) (one.0 ∙ sym two.0) k in
    let first = range_is r s i.0 j.0 in
    let rest = ranges-same b t u rs ss f.1 g.1 i.1 j.1 (one.1 ∙ sym two.1) (ends-tail b r (t ∷ rs) x) (ends-tail b s (u ∷ ss) y) in
    λ m. first m ∷ rest m

-- ---- one list of ranges

pub AreRanges-unique : (is js : List Interval) (rs us : List Range) → IsPermutation is js → AllSound is → AreRanges is rs → AreRanges js us → us ≡ rs
AreRanges-unique is js [] us p a r u =
    let one = (r.empty).0 refl in
    (u.empty).1 (one-IsPermutation whole js (rw one at p))
AreRanges-unique is js (x ∷ rs) [] p a r u =
    let one = (u.empty).0 refl in
    let back = one-IsPermutation whole is (rw one at (IsPermutation-sym is js p)) in
    cc ((r.empty).1 back)
AreRanges-unique is js (x ∷ rs) (y ∷ us) p a r u =
    let lowers = IsPermutation-filter_map (λ i. lower_cut i.start) is js p in
    let uppers = IsPermutation-filter_map (λ i. upper_cut i.end) is js p in
    let same_fixes = rising-same (lower_cuts is) (fixes (y ∷ us)) (fixes (x ∷ rs)) (lower_cuts-plain is a)
    (IsPermutation-trans _ _ _ lowers u.fixed) r.fixed u.fixed_rise r.fixed_rise in
    let same_introductions = rising-same (upper_cuts is) (introductions (y ∷ us)) (introductions (x ∷ rs)) (upper_cuts-plain is a)
    (IsPermutation-trans _ _ _ uppers u.introduced) r.introduced u.introduced_rise r.introduced_rise in
    let starts = list_all-IsPermutation (λ i. has_bound i.start) is js p in
    let ends = list_all-IsPermutation (λ i. has_bound i.end) is js p in
    ranges-same (list_all (λ i. has_bound i.end) is) y x us rs (followed-to (y ∷ us) u.followed) (followed-to (x ∷ rs) r.followed) same_introductions same_fixes
    (u.first y us refl ∙ sym starts ∙ sym (r.first x rs refl))
    (λ z front e. u.last z front e ∙ sym ends) r.last
