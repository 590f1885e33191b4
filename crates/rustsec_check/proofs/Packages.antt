-- The pairs of one more advisory and of one more package.
use Rattle.std.proofs.Common.{◌≡◌, ◌∙◌, ◌+◌, ◌<◌, ◌++◌, ℕ, false, List, [], ◌∷◌, Option, Some, None, ap, append_assoc, arith, get_or, length, map, refl, sym, take}
use Rattle.std.specs.Borrow.{Bor}
use Rattle.std.specs.List.{enumerate_from, filter, filter_map, flat_map}
use Rattle.std.proofs.lemmas.Grind.{flat_map-append}
use Rattle.std.proofs.lemmas.List.{append-nil, length-take-le, map-append, take_more}
use Rattle.std.proofs.lemmas.List.Elements.{filter_agree, filter_map-append}
use Rattle.rustsec_lock.specs.Package.{PackageValue}
use Rattle.rustsec_advisory.specs.declared.advisory.Advisory.{Advisory}
use Rattle.rustsec_database.specs.Pairs.{finds, is_audited}
use Rattle.rustsec_database.specs.Query.{Asked}
use Rattle.rustsec_report.specs.declared.settings.Settings.{Settings}
use Rattle.rustsec_check.specs.Pairs.{found, found_at}

filter-none : {A : Type 0} (xs : List A) → filter (λ (x : A). false) xs ≡ []
filter-none [] = refl
filter-none (x ∷ xs) = filter-none xs

-- a query finds nothing for a package that is not audited
pub finds-none : (advisories : List Advisory) (q : Asked) (p : PackageValue) → is_audited p ≡ false → filter (finds q p) advisories ≡ []
finds-none advisories q p h = filter_agree (finds q p) (λ a. false) (λ a. rw h refl) advisories ∙ filter-none advisories

-- ---- one more advisory

module _ {B : Type 0} (f : Advisory → Option B) where
  chosen-more : (xs : List (Bor Advisory)) (i : ℕ) (x : Bor Advisory) → i < length xs → x ≡ get_or xs i x
      → filter_map f (map (λ x. x.now) (take (i + 1) xs)) ≡ filter_map f (map (λ x. x.now) (take i xs)) ++ filter_map f (x.now ∷ [])
  chosen-more xs i x low is =
      ap (λ (ys : List (Bor Advisory)). filter_map f (map (λ x. x.now) ys)) (take_more xs i x low ∙ ap (λ z. take i xs ++ z ∷ []) (sym is))
      ∙ (ap (filter_map f) (map-append (λ (x : Bor Advisory). x.now) (take i xs) (x ∷ []))
      ∙ filter_map-append f (map (λ x. x.now) (take i xs)) (x.now ∷ []))

  -- an advisory that gives something appends it
  pub appended : (xs : List (Bor Advisory)) (i : ℕ) (x : Bor Advisory) (y : B) (before old new : List B) → i < length xs → x ≡ get_or xs i x
      → Some y ≡ f x.now → old ≡ before ++ filter_map f (map (λ x. x.now) (take i xs)) → new ≡ old ++ y ∷ []
      → new ≡ before ++ filter_map f (map (λ x. x.now) (take (i + 1) xs))
  appended xs i x y before old new low is gives so more =
      let last : filter_map f (x.now ∷ []) ≡ y ∷ [] = rw (← gives) refl in
      more ∙ (ap (λ zs. zs ++ y ∷ []) so
      ∙ (append_assoc before (filter_map f (map (λ x. x.now) (take i xs))) (y ∷ [])
      ∙ ap (λ zs. before ++ zs) (ap (λ zs. filter_map f (map (λ x. x.now) (take i xs)) ++ zs) (sym last) ∙ sym (chosen-more xs i x low is))))

  -- and another one appends nothing
  pub kept : (xs : List (Bor Advisory)) (i : ℕ) (x : Bor Advisory) (before old new : List B) → i < length xs → x ≡ get_or xs i x
      → None ≡ f x.now → old ≡ before ++ filter_map f (map (λ x. x.now) (take i xs)) → new ≡ old
      → new ≡ before ++ filter_map f (map (λ x. x.now) (take (i + 1) xs))
  kept xs i x before old new low is gives so same =
      let last : filter_map f (x.now ∷ []) ≡ [] = rw (← gives) refl in
      same ∙ (so ∙ ap (λ zs. before ++ zs) (sym (chosen-more xs i x low is ∙ (ap (λ zs. filter_map f (map (λ x. x.now) (take i xs)) ++ zs) last ∙ append-nil _))))

-- ---- one more package

pub enumerate-more : {A : Type 0} (n m : ℕ) (xs : List A) (x : A) → m ≡ n + length xs → enumerate_from n (xs ++ x ∷ []) ≡ enumerate_from n xs ++ (m, x) ∷ []
enumerate-more n m [] x is = let same : m ≡ n = omega (arith, is) in rw same refl
enumerate-more n m (y ∷ ys) x is = ap (λ zs. (n, y) ∷ zs) (enumerate-more (n + 1) m ys x (omega (arith, is)))

pub found-none : (advisories : List Advisory) (s : Settings) → found advisories [] s ≡ []
unfolding found
found-none advisories s = refl

pub found-more : (advisories : List Advisory) (s : Settings) (packages : List PackageValue) (i : ℕ) (p : PackageValue)
    → i < length packages → p ≡ get_or packages i p
    → found advisories (take (i + 1) packages) s ≡ found advisories (take i packages) s ++ found_at advisories s (i, p)
unfolding found
found-more advisories s packages i p low is =
    ap (λ ps. flat_map (found_at advisories s) (enumerate_from 0 ps)) (take_more packages i p low ∙ ap (λ x. take i packages ++ x ∷ []) (sym is))
    ∙ (ap (flat_map (found_at advisories s)) (enumerate-more 0 i (take i packages) p (omega (arith, length-take-le i packages (omega (arith, low)))))
    ∙ (flat_map-append (found_at advisories s) (enumerate_from 0 (take i packages)) ((i, p) ∷ [])
    ∙ ap (λ fs. found advisories (take i packages) s ++ fs) (append-nil (found_at advisories s (i, p)))))
