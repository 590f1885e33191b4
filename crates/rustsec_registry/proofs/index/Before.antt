-- Which packages are yanked by the answers that folders allow later, by those that they allowed before.
use Rattle.std.proofs.Common.{◌≡◌, ℕ, List, [], ◌∷◌, None, Ok, Some, Err, inl, inr}
use Rattle.std.specs.List.{AllByRecursion}
use Rattle.rustsec_files.specs.Allowed.{Allowed, AllowSame}
use Rattle.rustsec_values.specs.Failure.{Failure}
use Rattle.rustsec_values.specs.declared.error.ErrorKind.TheVariants as kind
use Rattle.rustsec_values.proofs.Refusals.{refused_by}
use Rattle.rustsec_lock.specs.Package.{PackageValue}
use Rattle.rustsec_registry.specs.index.IndexFolder.{IsPlace}
use Rattle.rustsec_registry.specs.index.YankedPackages.{Found, IsFirstError, IsFound, IsYankedIn, IsYankedRefusal, asked}
use Rattle.rustsec_registry.specs.declared.index.place.Place.{Place}
use Rattle.rustsec_registry.specs.declared.index.yanked.YankedPackages.{YankedPackages}
use Rattle.rustsec_registry.proofs.index.Ways.{answer-before}

module _ (a b : Allowed) (same : AllowSame a b) where
  place-before : (root : List ℕ) (place : Place) → IsPlace b root place → IsPlace a root place
  place-before root place h = (h.0, (h.1.0, (same.lists root (Some (h.1.0))).1 h.1.1, h.1.2), h.2)

  found-before : (place : Place) (found : List Found) → AllByRecursion (IsFound b place) found → AllByRecursion (IsFound a place) found
  found-before place [] h = h
  found-before place (f ∷ fs) h = (answer-before a b place f.wanted.name (Ok f.versions) same h.0, found-before place fs h.1)

  pub yanked-before : (root : List ℕ) (packages : List PackageValue) (y : YankedPackages) → IsYankedIn b root packages y → IsYankedIn a root packages y
  yanked-before root packages y h = record {
    place = h.place;
    is_place = place-before root h.place h.is_place;
    found = h.found;
    are_distinct = h.are_distinct;
    are_found = found-before h.place h.found h.are_found;
    packages_are = h.packages_are;
    unlisted_are = h.unlisted_are;
  }

  error-before : (place : Place) (packages : List PackageValue) (e : Failure) → IsFirstError b place packages e → IsFirstError a place packages e
  error-before place packages e h = record {
    found = h.found;
    bad = h.bad;
    rest = h.rest;
    are_distinct = h.are_distinct;
    are_found = found-before place h.found h.are_found;
    is_error = answer-before a b place h.bad.name (Err e) same h.is_error;
  }

  pub yanked-refused-before : (root : List ℕ) (packages : List PackageValue) (e : Failure) → IsYankedRefusal b root packages e
      → IsYankedRefusal a root packages e
  yanked-refused-before root packages e (inl h) = inl (refused_by kind.Io e (λ fails. (same.lists root None).1 fails) h)
  yanked-refused-before root packages e (inr (place, is, h)) = inr (place, place-before root place is, error-before place (asked packages) e h)
