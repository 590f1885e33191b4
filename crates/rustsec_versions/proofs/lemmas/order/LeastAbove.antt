-- The successor of a version is least above it among all valid versions.
use Rattle.std.proofs.Common.{◌≡◌, ◌==◌, ◌<◌, ◌⊎◌, ℕ, ◌+◌, ◌^◌, List, [], ◌∷◌, ◌++◌, length, Some, Bool, true, false, refl, sym, ◌∙◌, arith, inl, inr, subst}
use Rattle.std.specs.Prelude.{nat_lt}
use Rattle.std.proofs.lemmas.Bool.{cases_Bool, eqb-true}
use Rattle.std.proofs.lemmas.Bool.Decides.{nat_tests}
use Rattle.std.proofs.lemmas.List.{nil_from_length}
use Rattle.std.specs.List.{list_all}
use Rattle.std.proofs.lemmas.List.Folds.{list_all-append}
use Rattle.std.specs.Char.{is_ascii_digit}
use Rattle.std.specs.Ordering.{is_le, is_lt, nat_cmp, ordering_then, ordering_reverse}
use Rattle.std.specs.Cmp.Lexicographic.{slice_cmp}
use Rattle.std.specs.declared.cmp.Ordering.{Ordering}
use Rattle.std.specs.declared.cmp.Ordering.TheVariants.{Less, Equal, Greater}
use Rattle.semver.specs.Grammar.{is_pre_identifier, is_pre_release}
use Rattle.semver.specs.Order.{is_numeric, parts, pre_cmp, pre_part_cmp}
use Rattle.semver.specs.OrderLaws.{parts-shape, pre_cmp-both, pre_cmp-empty, pre_cmp-left, pre_cmp-right, pre_part_total}
use Rattle.semver.specs.Parse.{Parts}
use Rattle.rustsec_values.specs.Reading.{only_if}
use Rattle.rustsec_versions.specs.order.Precedence.{IsVersion, fits, is_at_most, is_below, least_of}
use Rattle.rustsec_versions.specs.requirement.Requirement.{has_successor}
use Rattle.rustsec_versions.specs.order.Successor.{IsLeastAbove, successor}
use Rattle.rustsec_versions.proofs.lemmas.order.PrecedenceLaws.{lt-Less}
use Rattle.rustsec_versions.proofs.lemmas.requirement.Sound.{and-first, and-second}

-- ---- numbers

cmp-less : (x y : ℕ) → x < y → nat_cmp x y ≡ Less
cmp-less x y h = grind (arith, nat_tests)

cmp-same : (x : ℕ) → nat_cmp x x ≡ Equal
cmp-same x = grind (arith, nat_tests)

-- what decides the first comparison decides both; otherwise the second one decides
then-least : (r s t : Ordering) → ordering_then r s ≡ Less → (s ≡ Less → is_le t ≡ true) → is_le (ordering_then r t) ≡ true
then-least Less s t h f = refl
then-least Equal s t h f = f h
then-least Greater s t h f = cc h

self-equal : (r : Ordering) → r ≡ ordering_reverse r → r ≡ Equal
self-equal Less e = cc e
self-equal Equal e = refl
self-equal Greater e = cc e

part-self : (p : List ℕ) → pre_part_cmp p p ≡ Equal
part-self p = self-equal _ (pre_part_total.antisymm p p)

-- ---- the identifier `0` is the least

abbrev zero_part : List ℕ
zero_part = 48 ∷ []

-- a digit is not below `0`
digit-least : (d : ℕ) → is_ascii_digit d ≡ true → is_le (nat_cmp 48 d) ≡ true
digit-least d h = grind (arith, nat_tests)

-- a number comes before a word, and a shorter number before a longer one
number-word : (x y : List ℕ) → is_numeric x ≡ true → is_numeric y ≡ false → pre_part_cmp x y ≡ Less
number-word x y p q = rw (p, q) refl

number-longer : (x y : List ℕ) → is_numeric x ≡ true → is_numeric y ≡ true → length x < length y → pre_part_cmp x y ≡ Less
number-longer x y p q h = rw (p, q, cmp-less (length x) (length y) h) refl

number-digit : (d : ℕ) → is_numeric (d ∷ []) ≡ true → pre_part_cmp zero_part (d ∷ []) ≡ ordering_then (nat_cmp 48 d) Equal
number-digit d p = rw p refl

then-Equal : (o : Ordering) → ordering_then o Equal ≡ o
then-Equal Less = refl
then-Equal Equal = refl
then-Equal Greater = refl

pub less-le : (o : Ordering) → o ≡ Less → is_le o ≡ true
less-le o e = rw e refl

zero-least : (x : List ℕ) → is_pre_identifier x ≡ true → is_le (pre_part_cmp zero_part x) ≡ true
zero-least [] h = cc h
zero-least (d ∷ []) h = elim (cases_Bool (is_numeric (d ∷ []))) [
  | inl number ↦ rw (number-digit d number, then-Equal (nat_cmp 48 d)) (digit-least d (and-first _ _ number))
  | inr word ↦ less-le _ (number-word zero_part (d ∷ []) refl word)
]
zero-least (d ∷ e ∷ rest) h = elim (cases_Bool (is_numeric (d ∷ e ∷ rest))) [
  | inl number ↦ less-le _ (number-longer zero_part (d ∷ e ∷ rest) refl number (omega arith))
  | inr word ↦ less-le _ (number-word zero_part (d ∷ e ∷ rest) refl word)
]

-- ---- lists of identifiers

pub le-then : (r s : Ordering) → is_le r ≡ true → is_le s ≡ true → is_le (ordering_then r s) ≡ true
le-then Less s p q = refl
le-then Equal s p q = q
le-then Greater s p q = cc p

nothing-least : (xs : List (List ℕ)) → is_le (slice_cmp pre_part_cmp [] xs) ≡ true
nothing-least [] = refl
nothing-least (x ∷ xs) = refl

-- one more identifier `0` is at most what was above
more-least : (ps ws : List (List ℕ)) → list_all is_pre_identifier ws ≡ true → slice_cmp pre_part_cmp ps ws ≡ Less
    → is_le (slice_cmp pre_part_cmp (ps ++ zero_part ∷ []) ws) ≡ true
more-least [] [] valid below = cc below
more-least [] (w ∷ ws) valid below = le-then _ _ (zero-least w (and-first _ _ valid)) (nothing-least ws)
more-least (p ∷ ps) [] valid below = cc below
more-least (p ∷ ps) (w ∷ ws) valid below = then-least (pre_part_cmp p w) _ _ below (more-least ps ws (and-second _ _ valid))

-- and above what it was added to
more-above : (ps : List (List ℕ)) → slice_cmp pre_part_cmp ps (ps ++ zero_part ∷ []) ≡ Less
more-above [] = refl
more-above (p ∷ ps) = rw (part-self p, more-above ps) refl

-- the identifiers of a text with one more
parts-more : (p q : List ℕ) → parts (p ++ 46 ∷ q) ≡ parts p ++ parts q
parts-more [] q = refl
parts-more (b ∷ p) q = elim (cases_Bool (b == 46)) [
  | inl dot ↦ rw (dot, parts-more p q) refl
  | inr other ↦
      let shape = parts-shape p in
      rw (other, parts-more p q, shape.2) refl
]

-- ---- pre-releases

-- whether a text is there
abbrev is_there : List ℕ → Type 0
is_there p = (length p == 0) ≡ false

there-more : (p q : List ℕ) → is_there p → is_there (p ++ q)
there-more [] q h = cc h
there-more (b ∷ p) q h = grind (arith, nat_tests)

identifiers : (w : List ℕ) → is_there w → is_pre_release w ≡ true → list_all is_pre_identifier (parts w) ≡ true
identifiers [] h valid = cc h
identifiers (b ∷ rest) h valid = valid

-- the pre-release `0` is at most every pre-release, and none
pub zero-pre : (w : List ℕ) → is_pre_release w ≡ true → is_le (pre_cmp zero_part w) ≡ true
zero-pre w valid = elim (cases_Bool (length w == 0)) [
  | inl none ↦ less-le _ (pre_cmp-right zero_part w refl none)
  | inr some ↦
      let shape = parts-shape w in
      let all = rw shape.2 at (identifiers w some valid) in
      rw (pre_cmp-both zero_part w refl some, shape.2) (le-then _ _ (zero-least shape.0 (and-first _ _ all)) (nothing-least shape.1))
]

-- a release is below nothing of its numbers
none-below : (w : List ℕ) → pre_cmp [] w ≡ Less → ⊥
none-below w h = elim (cases_Bool (length w == 0)) [
  | inl none ↦ cc (sym h ∙ pre_cmp-empty [] w refl none)
  | inr some ↦ cc (sym h ∙ pre_cmp-left [] w refl some)
]

-- a pre-release with one identifier `0` more
more-pre : (p w : List ℕ) → is_there p → is_pre_release w ≡ true → pre_cmp p w ≡ Less → is_le (pre_cmp (p ++ 46 ∷ zero_part) w) ≡ true
more-pre p w there valid below = elim (cases_Bool (length w == 0)) [
  | inl none ↦ less-le _ (pre_cmp-right (p ++ 46 ∷ zero_part) w (there-more p _ there) none)
  | inr some ↦ rw (pre_cmp-both (p ++ 46 ∷ zero_part) w (there-more p _ there) some, parts-more p zero_part)
      (more-least (parts p) (parts w) (identifiers w some valid) (sym (pre_cmp-both p w there some) ∙ below))
]

pre-above : (p : List ℕ) → is_there p → pre_cmp p (p ++ 46 ∷ zero_part) ≡ Less
pre-above p there = pre_cmp-both p (p ++ 46 ∷ zero_part) there (there-more p _ there) ∙ rw (parts-more p zero_part) (more-above (parts p))

-- ---- versions

Less-lt : (o : Ordering) → o ≡ Less → is_lt o ≡ true
Less-lt o e = rw e refl

cmp-greater : (x y : ℕ) → y < x → nat_cmp x y ≡ Greater
cmp-greater x y h = grind (arith, nat_tests)

next-le : (c d : ℕ) → c < d → is_le (nat_cmp (c + 1) d) ≡ true
next-le c d h = grind (arith, nat_tests)

three : (c d : ℕ) → (c < d) ⊎ ((c ≡ d) ⊎ (d < c))
three c d = elim (cases_Bool (nat_lt c d)) [
  | inl low ↦ inl (grind (arith, nat_tests))
  | inr high ↦ elim (cases_Bool (c == d)) [
    | inl same ↦ inr (inl (eqb-true c d same))
    | inr other ↦ inr (inr (grind (arith, nat_tests)))
  ]
]

-- the next patch
patch-least : (c d : ℕ) (r s : Ordering) → (r ≡ Less → ⊥) → is_le s ≡ true → ordering_then (nat_cmp c d) r ≡ Less
    → is_le (ordering_then (nat_cmp (c + 1) d) s) ≡ true
patch-least c d r s never at_most below = elim (three c d) [
  | inl low ↦ le-then _ _ (next-le c d low) at_most
  | inr (inl same) ↦ absurd (never (rw (same, cmp-same d) at below))
  | inr (inr high) ↦ cc (rw (cmp-greater c d high) at below)
]

release-least : (v w : Parts) → v.3 ≡ [] → is_pre_release w.3 ≡ true → is_below v w ≡ true
    → is_at_most (least_of v.0 v.1 (v.2 + 1)) w ≡ true
release-least v w none valid below =
    then-least (nat_cmp v.0 w.0) _ _ (lt-Less _ below) (λ h. then-least (nat_cmp v.1 w.1) _ _ h (λ k.
    patch-least v.2 w.2 (pre_cmp v.3 w.3) (pre_cmp zero_part w.3) (λ (e : pre_cmp v.3 w.3 ≡ Less). none-below w.3 (rw none at e)) (zero-pre w.3 valid) k))

pre-least : (v w : Parts) → is_there v.3 → is_pre_release w.3 ≡ true → is_below v w ≡ true
    → is_at_most (v.0, v.1, v.2, v.3 ++ 46 ∷ zero_part, []) w ≡ true
pre-least v w there valid below =
    then-least (nat_cmp v.0 w.0) _ _ (lt-Less _ below) (λ h. then-least (nat_cmp v.1 w.1) _ _ h (λ k.
    then-least (nat_cmp v.2 w.2) _ _ k (λ e. more-pre v.3 w.3 there valid e)))

same-value : {A : Type 0} (x y : A) → Some x ≡ Some y → x ≡ y
same-value x y h = cc

if-some : (b : Bool) (x y : Parts) → only_if b (Some x) ≡ Some y → x ≡ y
if-some true x y h = same-value x y h
if-some false x y h = cc h

release-above : (v : Parts) → is_below v (least_of v.0 v.1 (v.2 + 1)) ≡ true
release-above v = rw (cmp-same v.0, cmp-same v.1, cmp-less v.2 (v.2 + 1) (omega arith)) refl

pre-is-above : (v : Parts) → is_there v.3 → is_below v (v.0, v.1, v.2, v.3 ++ 46 ∷ zero_part, []) ≡ true
pre-is-above v there = rw (cmp-same v.0, cmp-same v.1, cmp-same v.2, pre-above v.3 there) refl

-- the successor of a version is least above it
pub successor-least : (v s : Parts) → successor v ≡ Some s → IsLeastAbove v s
successor-least v s h = elim (cases_Bool (length v.3 == 0)) [
  | inl none ↦
      let empty = nil_from_length v.3 (eqb-true _ _ none) in
      let e : least_of v.0 v.1 (v.2 + 1) ≡ s = if-some _ _ _ (rw none at h) in
      subst (IsLeastAbove v) e (record { above = release-above v; least = λ w valid below. release-least v w empty valid.pre below })
  | inr some ↦
      let e : (v.0, v.1, v.2, v.3 ++ 46 ∷ zero_part, []) ≡ s = same-value _ _ (rw some at h) in
      subst (IsLeastAbove v) e (record { above = pre-is-above v some; least = λ w valid below. pre-least v w some valid.pre below })
]

longer : (n : ℕ) → (n == 0) ≡ true → nat_lt 0 n ≡ false
longer n h = grind (arith, nat_tests)

-- a version that has a successor
pub successor-there : (v : Parts) → has_successor v ≡ true → (s : Parts) × (successor v ≡ Some s)
successor-there v h = elim (cases_Bool (length v.3 == 0)) [
  | inl none ↦ (least_of v.0 v.1 (v.2 + 1), rw (none, rw (longer (length v.3) none) at h) refl)
  | inr some ↦ ((v.0, v.1, v.2, v.3 ++ 46 ∷ zero_part, []), rw some refl)
]

-- with one identifier `0` more, a pre-release stays one
pub is_pre_release-more : (p : List ℕ) → is_pre_release p ≡ true → is_there p → is_pre_release (p ++ 46 ∷ zero_part) ≡ true
is_pre_release-more [] valid there = cc there
is_pre_release-more (b ∷ p) valid there = rw (parts-more (b ∷ p) zero_part, list_all-append, valid) refl

fits-below : (n : ℕ) → fits n ≡ true → n < 2 ^ 64
fits-below n h = grind (arith, nat_tests)

-- the successor of a valid version is valid, without build
pub successor-valid : (v s : Parts) → IsVersion v → successor v ≡ Some s → IsVersion s × (s.4 ≡ [])
successor-valid v s valid h = elim (cases_Bool (length v.3 == 0)) [
  | inl none ↦ elim (cases_Bool (fits (v.2 + 1))) [
    | inl small ↦
        let e : least_of v.0 v.1 (v.2 + 1) ≡ s = same-value _ _ (rw (none, small) at h) in
        let there : IsVersion (least_of v.0 v.1 (v.2 + 1)) =
        record { major = valid.major; minor = valid.minor; patch = fits-below (v.2 + 1) small; pre = refl } in
        (subst IsVersion e there, subst (λ (x : Parts). x.4 ≡ []) e refl)
    | inr large ↦ cc (rw (none, large) at h)
  ]
  | inr some ↦
      let e : (v.0, v.1, v.2, v.3 ++ 46 ∷ zero_part, []) ≡ s = same-value _ _ (rw some at h) in
      let there : IsVersion (v.0, v.1, v.2, v.3 ++ 46 ∷ zero_part, []) =
      record { major = valid.major; minor = valid.minor; patch = valid.patch; pre = is_pre_release-more v.3 valid.pre some } in
      (subst IsVersion e there, subst (λ (x : Parts). x.4 ≡ []) e refl)
]
