-- Packages, as contracts see them, and their order.
use Rattle.std.specs.Prelude.{◌≡◌, ℕ, Bool, List, Option, Some, None, nat_eq, refl, true}
use Rattle.std.specs.Bool.{Decides}
use Rattle.std.specs.Cmp.{IsEquivalence, IsTotalOrder, and_equiv, both_tied, first_so, nat_cmp_total, on_equiv, on_total, second_so, then_total, unsigned_ties}
use Rattle.std.specs.Cmp.Lexicographic.{bytes_decides, nat_list_cmp_total, nat_list_eq_equiv, options_equiv, options_total, pointwise, slice_cmp, texts_ties}
use Rattle.std.specs.Option.{option_cmp, option_eq}
use Rattle.std.specs.Ordering.{eq_by_cmp, eq_of_both, nat_cmp, on, then_cmp}
use Rattle.std.specs.declared.cmp.Ordering.{Ordering}
use Rattle.semver.specs.Order.{build_cmp, pre_cmp}
use Rattle.semver.specs.OrderLaws.{build-anti, build_total, order_ties, pre-anti, pre_total}
use Rattle.semver.specs.Parse.{Parts}
use Rattle.std.proofs.Common.{ap}
use Rattle.rustsec_values.specs.Equality.{both_true, option_decides}
use Rattle.rustsec_versions.specs.EqualityLaws.{version_decides}
use Rattle.rustsec_versions.specs.Equality.{version_eq, version_equiv}
use Rattle.rustsec_versions.specs.order.Precedence.{version_order}
use Rattle.rustsec_lock.specs.Source.{Source}
use Rattle.rustsec_lock.specs.SourceOrder.{source_cmp, source_decides, source_eq, source_equiv, source_ties, source_total}

-- a package: its name, the parts of its version, its source and its checksum
pub record PackageValue : Type 0 where
  pub name : List ℕ
  pub version : Parts
  pub source : Option Source
  pub checksum : Option (List ℕ)

-- packages are ordered by these fields, in this order: versions by the order of their type, a missing source or
-- checksum first
abbrev pub package_cmp : PackageValue → PackageValue → Ordering
package_cmp = then_cmp (on (λ (p : PackageValue). p.name) (slice_cmp nat_cmp)) (then_cmp (on (λ (p : PackageValue). p.version) version_order)
    (then_cmp (on (λ (p : PackageValue). p.source) (option_cmp source_cmp)) (on (λ (p : PackageValue). p.checksum) (option_cmp (slice_cmp nat_cmp)))))

-- two packages are equal if all their fields are
abbrev pub package_eq : PackageValue → PackageValue → Bool
package_eq = eq_of_both (on (λ (p : PackageValue). p.name) (pointwise nat_eq)) (eq_of_both (on (λ (p : PackageValue). p.version) version_eq)
    (eq_of_both (on (λ (p : PackageValue). p.source) (option_eq source_eq)) (on (λ (p : PackageValue). p.checksum) (option_eq (pointwise nat_eq)))))

-- ---- the laws of both

version_total : IsTotalOrder version_order
version_total = then_total (on_total (λ (v : Parts). v.0) nat_cmp_total) (then_total (on_total (λ (v : Parts). v.1) nat_cmp_total)
    (then_total (on_total (λ (v : Parts). v.2) nat_cmp_total) (then_total (on_total (λ (v : Parts). v.3) pre_total) (on_total (λ (v : Parts). v.4) build_total))))

version_ties : (a b : Parts) → version_eq a b ≡ eq_by_cmp version_order a b
version_ties a b =
    both_tied _ _ _ _ (unsigned_ties a.0 b.0) (both_tied _ _ _ _ (unsigned_ties a.1 b.1) (both_tied _ _ _ _ (unsigned_ties a.2 b.2)
    (both_tied _ _ _ _ (order_ties pre_cmp pre_total pre-anti a.3 b.3) (order_ties build_cmp build_total build-anti a.4 b.4))))

pub package_total : IsTotalOrder package_cmp
package_total = then_total (on_total (λ (p : PackageValue). p.name) nat_list_cmp_total) (then_total (on_total (λ (p : PackageValue). p.version) version_total)
    (then_total (on_total (λ (p : PackageValue). p.source) (options_total source_total)) (on_total (λ (p : PackageValue). p.checksum) (options_total nat_list_cmp_total))))

pub package_equiv : IsEquivalence package_eq
package_equiv = and_equiv (on_equiv (λ (p : PackageValue). p.name) nat_list_eq_equiv) (and_equiv (on_equiv (λ (p : PackageValue). p.version) version_equiv)
    (and_equiv (on_equiv (λ (p : PackageValue). p.source) (options_equiv source_equiv)) (on_equiv (λ (p : PackageValue). p.checksum) (options_equiv nat_list_eq_equiv))))

option_ties : {A : Type 0} (E : A → A → Bool) (C : A → A → Ordering) → ((x y : A) → E x y ≡ eq_by_cmp C x y)
    → (a b : Option A) → option_eq E a b ≡ eq_by_cmp (option_cmp C) a b
option_ties E C each None None = refl
option_ties E C each None (Some y) = refl
option_ties E C each (Some x) None = refl
option_ties E C each (Some x) (Some y) = each x y

pub package_ties : (a b : PackageValue) → package_eq a b ≡ eq_by_cmp package_cmp a b
package_ties a b =
    both_tied _ _ _ _ (texts_ties a.name b.name) (both_tied _ _ _ _ (version_ties a.version b.version)
    (both_tied _ _ _ _ (option_ties source_eq source_cmp source_ties a.source b.source) (option_ties (pointwise nat_eq) (slice_cmp nat_cmp) texts_ties a.checksum b.checksum)))

-- ---- `==` holds exactly between the same packages

abbrev sources_eq : Option Source → Option Source → Bool
sources_eq = option_eq source_eq

abbrev checksums_eq : Option (List ℕ) → Option (List ℕ) → Bool
checksums_eq = option_eq (pointwise nat_eq)

package-same : (a b : PackageValue) → package_eq a b ≡ true → a ≡ b
package-same a b h =
    let e0 = (bytes_decides a.name b.name).0 (first_so (pointwise nat_eq a.name b.name) _ h) in
    let rest = second_so (pointwise nat_eq a.name b.name) _ h in
    let e1 = (version_decides a.version b.version).0 (first_so (version_eq a.version b.version) _ rest) in
    let more = second_so (version_eq a.version b.version) _ rest in
    let e2 = (option_decides source_eq source_decides a.source b.source).0 (first_so (sources_eq a.source b.source) _ more) in
    let e3 = (option_decides (pointwise nat_eq) bytes_decides a.checksum b.checksum).0 (second_so (sources_eq a.source b.source) _ more) in
    λ i. record { name = e0 i; version = e1 i; source = e2 i; checksum = e3 i }

package-equal : (a b : PackageValue) → a ≡ b → package_eq a b ≡ true
package-equal a b h =
    both_true (pointwise nat_eq a.name b.name) _ ((bytes_decides a.name b.name).1 (ap (λ (p : PackageValue). p.name) h))
    (both_true (version_eq a.version b.version) _ ((version_decides a.version b.version).1 (ap (λ (p : PackageValue). p.version) h))
    (both_true (sources_eq a.source b.source) (checksums_eq a.checksum b.checksum) ((option_decides source_eq source_decides a.source b.source).1 (ap (λ (p : PackageValue). p.source) h))
    ((option_decides (pointwise nat_eq) bytes_decides a.checksum b.checksum).1 (ap (λ (p : PackageValue). p.checksum) h))))

pub package_decides : (a b : PackageValue) → Decides (package_eq a b) (a ≡ b)
package_decides a b = (package-same a b, package-equal a b)
