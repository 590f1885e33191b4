-- Sorting packages and comparing neighbours gives the distinct packages, in order.
use Rattle.std.proofs.Common.{◌≡◌, ◌∙◌, List, [], map, sym, ap, IsPermutation}
use Rattle.std.specs.Borrow.{Bor}
use Rattle.std.specs.Cmp.{on_total}
use Rattle.std.specs.List.{dedup}
use Rattle.std.specs.List.Retain.{DiffersFromLast, IsFiltered}
use Rattle.std.specs.List.Sorted.{IsSorted}
use Rattle.std.proofs.lemmas.List.Filters.{dedup_is}
use Rattle.std.proofs.lemmas.List.Kept.{Contains-dedup, Contains-from_dedup, IsStrictlySortedBy-dedup}
use Rattle.std.proofs.lemmas.List.Sorted.{Contains-permutation, IsPermutation-map, IsPermutation-sym}
use Rattle.rustsec_values.proofs.Seen.{dedup-map, rise-map}
use Rattle.rustsec_lock.specs.Package.{PackageValue, package_cmp, package_decides, package_eq, package_equiv, package_ties, package_total}
use Rattle.rustsec_registry.specs.Packages.{AreDistinctPackages}

-- the package that a reference refers to
abbrev read : Bor PackageValue → PackageValue
read x = x.now

pub are-distinct : (packages : List PackageValue) (refs sorted left : List (Bor PackageValue)) → map (λ x. x.now) refs ≡ packages
    → IsPermutation refs sorted → IsSorted (λ (x y : Bor PackageValue). package_cmp x.now y.now) sorted
    → IsFiltered (DiffersFromLast (λ (x y : Bor PackageValue). package_eq x.now y.now)) [] sorted left
    → AreDistinctPackages packages (map (λ x. x.now) left)
are-distinct packages refs sorted left are perm up kept =
    let is : left ≡ dedup (λ (x y : Bor PackageValue). package_eq x.now y.now) sorted = dedup_is _ sorted left kept in
    let rising = IsStrictlySortedBy-dedup (on_total read package_total) (λ x y. package_ties x.now y.now) sorted up in
    let values : map read left ≡ dedup package_eq (map read sorted) = ap (map read) is ∙ dedup-map read package_eq sorted in
    let shuffled : IsPermutation packages (map read sorted) = rw (sym are) (IsPermutation-map read refs sorted perm) in
    record {
      rise = rw is (rise-map read package_cmp _ rising);
      same = λ p. (
        λ h. Contains-permutation _ _ p (IsPermutation-sym _ _ shuffled) (Contains-from_dedup package_eq (map read sorted) p (rw values at h)),
        λ h. rw values (Contains-dedup package_equiv (λ x y. (package_decides x y).0) (map read sorted) p (Contains-permutation _ _ p shuffled h)),
      );
    }
