-- Packages, and the names that they have.
use Rattle.std.specs.Prelude.{◌↔◌, ℕ, Bool, Contains, List, nat_eq}
use Rattle.std.specs.Cmp.Lexicographic.{pointwise}
use Rattle.std.specs.List.{list_any}
use Rattle.std.specs.List.Sorted.{IsStrictlySortedBy}
use Rattle.rustsec_lock.specs.Package.{PackageValue, package_cmp}

-- the distinct packages of a list, in the order of packages: they rise, and are the same packages
pub record AreDistinctPackages (packages distinct : List PackageValue) : Type 0 where
  pub rise : IsStrictlySortedBy package_cmp distinct
  pub same : (p : PackageValue) → Contains distinct p ↔ Contains packages p

-- whether some package has this name
abbrev pub has_name : List ℕ → List PackageValue → Bool
has_name name packages = list_any (λ (p : PackageValue). pointwise nat_eq name p.name) packages
