-- Which packages are yanked, by the cached answers.
use Rattle.std.specs.Prelude.{◌≡◌, ◌++◌, ℕ, Bool, false, true, List, Option, IsSome, Some, None, Result, Ok, Err, codes, filter_map}
use Rattle.std.specs.Borrow.{Bor}
use Rattle.semver.specs.Identifiers.{parts_text}
use Rattle.rustsec_values.specs.Failure.{Failure}
use Rattle.rustsec_values.specs.declared.error.ErrorKind.TheVariants as kind
use Rattle.rustsec_lock.specs.Package.{PackageValue}
use Rattle.rustsec_registry.specs.Lookups.{Kept, at}
use Rattle.rustsec_registry.specs.Packages.{has_name}

-- ---- the answer for one package

-- the error for something that is missing
abbrev pub not_found : List ℕ → Failure
not_found message = record { kind = kind.NotFound; message = message; cause = None }

-- the messages for a missing name and a missing version
abbrev pub missing_name : PackageValue → List ℕ
missing_name p = codes "no such package in the registry: " ++ p.name

abbrev pub missing_version : PackageValue → List ℕ
missing_version p = codes "no such version in the registry: " ++ (p.name ++ (codes " " ++ parts_text p.version))

-- by the entry for its version: the package if that is yanked, nothing if it is not, NotFound if it is missing
abbrev pub by_version : PackageValue → Option Bool → Option (Result PackageValue Failure)
by_version p None = Some (Err (not_found (missing_version p)))
by_version p (Some true) = Some (Ok p)
by_version p (Some false) = None

-- by the cached answer for its name: NotFound if the name is missing, and the error if the look-up failed. A version
-- is looked up by its printed text
abbrev pub by_name : PackageValue → Option Kept → Option (Result PackageValue Failure)
by_name p None = Some (Err (not_found (missing_name p)))
by_name p (Some (Ok None)) = Some (Err (not_found (missing_name p)))
by_name p (Some (Ok (Some entries))) = by_version p (at (parts_text p.version) entries)
by_name p (Some (Err e)) = Some (Err e)

-- ---- the answers for packages

-- the answer for each package of a list, in its order
abbrev pub yanked_answers : List (List ℕ × Kept) → List PackageValue → List (Result PackageValue Failure)
yanked_answers kept packages = filter_map (λ (p : PackageValue). by_name p (at p.name kept)) packages

-- an answer with a reference, by the package that it refers to
abbrev pub seen : Result (Bor PackageValue) Failure → Result PackageValue Failure
seen (Ok p) = Ok p.now
seen (Err e) = Err e

-- ---- how the cached answers change

-- the cached answers after some packages were looked up: none is changed, and a new one is for the name of one of
-- them
pub record Grows (packages : List PackageValue) (old new : List (List ℕ × Kept)) : Type 0 where
  pub same : (name : List ℕ) (kept : Kept) → at name old ≡ Some kept → at name new ≡ Some kept
  pub others : (name : List ℕ) → has_name name packages ≡ false → at name new ≡ at name old

-- each package's name has an answer
abbrev pub AreKept : List PackageValue → List (List ℕ × Kept) → Type 0
AreKept packages kept = (name : List ℕ) → has_name name packages ≡ true → IsSome (at name kept)
