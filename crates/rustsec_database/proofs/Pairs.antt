-- The pairs of a package with advisories, and the pairs after one more package.
use Rattle.std.proofs.Common.{◌≡◌, ◌∙◌, ◌+◌, ◌<◌, ◌++◌, ℕ, true, false, List, [], ◌∷◌, get_or, length, map, take, refl, sym, ap, append_assoc}
use Rattle.std.specs.Borrow.{Bor}
use Rattle.std.specs.List.{filter, flat_map}
use Rattle.std.proofs.lemmas.List.{append-nil, take_more}
use Rattle.std.proofs.lemmas.List.Elements.{filter_agree}
use Rattle.rustsec_lock.specs.Package.{PackageValue}
use Rattle.rustsec_advisory.specs.declared.advisory.Advisory.{Advisory}
use Rattle.rustsec_database.specs.Pairs.{Pair, finds, is_audited, pairs, pairs_of}
use Rattle.rustsec_database.specs.Query.{Asked, of_package}
use Rattle.rustsec_database.specs.Selects.{selects}

abbrev pub as_pair : PackageValue → Advisory → Pair
as_pair p a = record { of = p; by = a }

filter-none : {A : Type 0} (xs : List A) → filter (λ (x : A). false) xs ≡ []
filter-none [] = refl
filter-none (x ∷ xs) = filter-none xs

-- a package that is not audited has no pair
pub no-pairs : (advisories : List Advisory) (q : Asked) (p : PackageValue) → is_audited p ≡ false → pairs_of advisories q p ≡ []
no-pairs advisories q p h =
    ap (map (as_pair p)) (filter_agree (finds q p) (λ a. false) (λ a. rw h refl) advisories ∙ filter-none advisories)

-- the pairs of an audited package are those of the advisories that its query finds
pub found-pairs : (advisories : List Advisory) (q : Asked) (p : PackageValue) (found : List (Bor Advisory)) → is_audited p ≡ true
    → map (λ x. x.now) found ≡ filter (selects (of_package q p)) advisories
    → map (as_pair p) (map (λ (x : Bor Advisory). x.now) found) ≡ pairs_of advisories q p
found-pairs advisories q p found h are =
    ap (map (as_pair p)) (are ∙ filter_agree (selects (of_package q p)) (finds q p) (λ a. rw h refl) advisories)

flat-append : {A B : Type 0} (f : A → List B) (xs : List A) (x : A) → flat_map f (xs ++ x ∷ []) ≡ flat_map f xs ++ f x
flat-append f [] x = append-nil (f x)
flat-append f (y ∷ ys) x = ap (λ zs. f y ++ zs) (flat-append f ys x) ∙ sym (append_assoc (f y) (flat_map f ys) (f x))

-- the pairs after one more package
pub pairs-more : (advisories : List Advisory) (q : Asked) (packages : List PackageValue) (i : ℕ) (p : PackageValue) (before more : List Pair)
    → i < length packages → p ≡ get_or packages i p → before ≡ pairs advisories (take i packages) q
    → more ≡ before ++ pairs_of advisories q p → more ≡ pairs advisories (take (i + 1) packages) q
unfolding pairs
pairs-more advisories q packages i p before more l is h step =
    step ∙ (ap (λ xs. xs ++ pairs_of advisories q p) h
    ∙ (sym (flat-append (pairs_of advisories q) (take i packages) p)
    ∙ ap (flat_map (pairs_of advisories q)) (ap (λ x. take i packages ++ x ∷ []) is ∙ sym (take_more packages i p l))))

pub pairs-none : (advisories : List Advisory) (q : Asked) → pairs advisories [] q ≡ []
unfolding pairs
pairs-none advisories q = refl
