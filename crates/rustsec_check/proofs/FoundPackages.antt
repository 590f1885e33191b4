-- What each package of a lockfile meets at its place, the package of each pair meets.
use Rattle.std.proofs.Common.{◌≡◌, ◌∙◌, ◌+◌, ◌++◌, ℕ, List, [], ◌∷◌, Option, Some, None, append_assoc, arith, length, refl, subst, sym}
use Rattle.std.specs.Prelude.{option_and_then, option_map, slice_get}
use Rattle.std.specs.List.{All, enumerate_from, filter, filter_map, flat_map}
use Rattle.std.proofs.lemmas.List.{length-append}
use Rattle.std.proofs.lemmas.List.Elements.{All-append, All-cons, All-head, All-map, All-nil, All-tail}
use Rattle.rustsec_lock.specs.Package.{PackageValue}
use Rattle.rustsec_texts.specs.declared.warning_kind.WarningKind.{WarningKind}
use Rattle.rustsec_advisory.specs.declared.advisory.Advisory.{Advisory}
use Rattle.rustsec_database.proofs.Places.{got-last}
use Rattle.rustsec_database.specs.Pairs.{finds}
use Rattle.rustsec_report.specs.Report.{informational_query, query_of, wanted_kind}
use Rattle.rustsec_report.specs.declared.settings.Settings.{Settings}
use Rattle.rustsec_check.specs.Facts.{ArePlaced}
use Rattle.rustsec_check.specs.Pairs.{as_vulnerable, as_wanted, found, found_at, vulnerable_at, wanted_at}
use Rattle.rustsec_check.specs.Values.{Found}

all-same : {A : Type 0} (P : A → Type 0) → ((x : A) → P x) → (xs : List A) → All P xs
all-same P h [] = All-nil P
all-same P h (x ∷ xs) = All-cons P x xs (h x) (all-same P h xs)

-- a pair of this package for a kind, if any
abbrev pub of_kind : ℕ × PackageValue → Advisory → Option WarningKind → Option Found
of_kind placed a kind = option_map (λ k. record { kind = Some k; advisory = a; «package» = placed.1; place = placed.0 }) kind

some-same : {A : Type 0} (a b : A) → Some a ≡ Some b → a ≡ b
some-same a b h = cc h

module _ (P : ℕ × PackageValue → Type 0) where
  abbrev pub HoldsOf : Found → Type 0
  HoldsOf f = P (f.place, f.«package»)

  vulnerable-of : (advisories : List Advisory) (s : Settings) (placed : ℕ × PackageValue) → P placed → All HoldsOf (vulnerable_at advisories s placed)
  unfolding vulnerable_at
  vulnerable-of advisories s placed holds =
      All-map HoldsOf (as_vulnerable placed) (filter (finds (query_of s) placed.1) advisories) (all-same _ (λ a. holds) _)

  -- one more element
  one-more : {A : Type 0} (f : A → Option Found) → ((x : A) (y : Found) → f x ≡ Some y → HoldsOf y) → (x : A) (xs : List A)
      → All HoldsOf (filter_map f xs) → (o : Option Found) → f x ≡ o → All HoldsOf (filter_map f (x ∷ xs))
  one-more f h x xs before None is = rw is before
  one-more f h x xs before (Some y) is = rw is (All-cons HoldsOf y (filter_map f xs) (h x y is) before)

  chosen-of : {A : Type 0} (f : A → Option Found) → ((x : A) (y : Found) → f x ≡ Some y → HoldsOf y) → (xs : List A) → All HoldsOf (filter_map f xs)
  chosen-of f h [] = All-nil HoldsOf
  chosen-of f h (x ∷ xs) = one-more f h x xs (chosen-of f h xs) (f x) refl

  of-kind-of : (placed : ℕ × PackageValue) (a : Advisory) (kind : Option WarningKind) (y : Found) → P placed → of_kind placed a kind ≡ Some y → HoldsOf y
  of-kind-of placed a None y holds is = cc is
  of-kind-of placed a (Some k) y holds is = subst HoldsOf (some-same _ y is) holds

  wanted-of : (advisories : List Advisory) (s : Settings) (placed : ℕ × PackageValue) → P placed → All HoldsOf (wanted_at advisories s placed)
  unfolding wanted_at
  wanted-of advisories s placed holds =
      chosen-of (as_wanted s placed) (λ a y is. of-kind-of placed a (option_and_then (wanted_kind s) a.metadata.informational) y holds is)
      (filter (finds (informational_query s) placed.1) advisories)

  found-at-of : (advisories : List Advisory) (s : Settings) (placed : ℕ × PackageValue) → P placed → All HoldsOf (found_at advisories s placed)
  found-at-of advisories s placed holds =
      All-append HoldsOf (vulnerable_at advisories s placed) (wanted_at advisories s placed) (vulnerable-of advisories s placed holds)
      (wanted-of advisories s placed holds)

  found-all-of : (advisories : List Advisory) (s : Settings) (places : List (ℕ × PackageValue)) → All P places
      → All HoldsOf (flat_map (found_at advisories s) places)
  found-all-of advisories s [] hold = All-nil HoldsOf
  found-all-of advisories s (p ∷ ps) hold =
      All-append HoldsOf (found_at advisories s p) (flat_map (found_at advisories s) ps)
      (found-at-of advisories s p (All-head P p ps hold)) (found-all-of advisories s ps (All-tail P p ps hold))

-- ---- what is known of the package alone

abbrev OfPackage : (PackageValue → Type 0) → ℕ × PackageValue → Type 0
OfPackage P placed = P placed.1

numbered : (P : PackageValue → Type 0) (n : ℕ) (packages : List PackageValue) → All P packages → All (OfPackage P) (enumerate_from n packages)
numbered P n [] hold = All-nil (OfPackage P)
numbered P n (p ∷ ps) hold =
    All-cons (OfPackage P) (n, p) (enumerate_from (n + 1) ps) (All-head P p ps hold) (numbered P (n + 1) ps (All-tail P p ps hold))

pub found-of : (P : PackageValue → Type 0) (advisories : List Advisory) (packages : List PackageValue) (s : Settings) → All P packages
    → All (λ (f : Found). P f.«package») (found advisories packages s)
unfolding found
found-of P advisories packages s hold = found-all-of (OfPackage P) advisories s (enumerate_from 0 packages) (numbered P 0 packages hold)

-- ---- the package of each pair is at its place

-- whether a package is at its place
abbrev IsAt : List PackageValue → ℕ × PackageValue → Type 0
IsAt packages placed = slice_get packages placed.0 ≡ Some placed.1

at-places : (all before packages : List PackageValue) (n : ℕ) → all ≡ before ++ packages → n ≡ length before → All (IsAt all) (enumerate_from n packages)
at-places all before [] n is len = All-nil (IsAt all)
at-places all before (p ∷ ps) n is len =
    let at : slice_get all n ≡ Some p = (λ i. slice_get (is i) (len i)) ∙ got-last before p ps in
    let longer : n + 1 ≡ length (before ++ p ∷ []) = omega (arith, len, length-append before (p ∷ [])) in
    All-cons (IsAt all) (n, p) (enumerate_from (n + 1) ps) at (at-places all (before ++ p ∷ []) ps (n + 1) (is ∙ sym (append_assoc before (p ∷ []) ps)) longer)

pub found-placed : (advisories : List Advisory) (packages : List PackageValue) (s : Settings) → ArePlaced packages (found advisories packages s)
unfolding found
found-placed advisories packages s = found-all-of (IsAt packages) advisories s (enumerate_from 0 packages) (at-places packages [] packages 0 refl refl)
