-- The packages of a lockfile that are yanked from their registry: what is known about each.
use Rattle.std.specs.Prelude.{◌≡◌, ◌&&◌, not, ℕ, Bool, List, Some, map}
use Rattle.std.specs.List.{All, enumerate_from, filter, list_any}
use Rattle.rustsec_lock.specs.Package.{PackageValue}
use Rattle.rustsec_graph.specs.Edges.{dependents}
use Rattle.rustsec_graph.specs.Paths.{IsAnswer}
use Rattle.rustsec_texts.specs.declared.warning_kind.WarningKind.TheVariants as warning
use Rattle.rustsec_check.specs.Findings.{is_denied, is_old, is_same}
use Rattle.rustsec_check.specs.Values.{SubjectValue, YankedValue}

-- whether the package at a place has the name, version and source of a package that is yanked
abbrev pub is_yanked : List PackageValue → ℕ × PackageValue → Bool
is_yanked yanked placed = list_any (is_same placed.1) yanked

-- the packages that are yanked, each with its place in the lockfile
abbrev pub yanked_in : List PackageValue → List PackageValue → List (ℕ × PackageValue)
yanked_in yanked packages = filter (is_yanked yanked) (enumerate_from 0 packages)

-- what is known about such a package
pub record IsYanked (s : SubjectValue) (y : YankedValue) : Type 0 where
  pub is_denied : y.is_denied ≡ is_denied s.denied (Some warning.Yanked)
  pub is_old : y.is_old ≡ is_old s.baseline y.«package»
  pub path : IsAnswer s.graph.edges s.graph.roots y.place y.path
  pub dependents : y.dependents ≡ dependents s.graph.edges y.place

-- the package with its place
abbrev pub placed_of : YankedValue → ℕ × PackageValue
placed_of y = (y.place, y.«package»)

-- those of some packages that are yanked, in their order
pub record AreYankedOf (s : SubjectValue) (yanked packages : List PackageValue) (ys : List YankedValue) : Type 0 where
  pub places : map placed_of ys ≡ yanked_in yanked packages
  pub each : All (IsYanked s) ys

-- those of a subject's packages, in the lockfile's order
abbrev pub AreYanked : SubjectValue → List PackageValue → List YankedValue → Type 0
AreYanked s yanked ys = AreYankedOf s yanked s.packages ys

-- whether some of them is denied and not old
abbrev pub yanked_fails : List YankedValue → Bool
yanked_fails ys = list_any (λ (y : YankedValue). y.is_denied && not y.is_old) ys
