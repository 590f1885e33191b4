-- Which packages of a lockfile are yanked, by a registry's index in a folder (The Cargo Book, "Registry Index", "JSON
-- Schema", `yanked`).
use Rattle.std.specs.Prelude.{◌≡◌, ◌≢◌, ◌⊎◌, ◌++◌, ℕ, Bool, false, List, ◌∷◌, Option, Some, None, Result, Ok, Err, ⊤, filter, filter_map, if◌then◌else◌, is_some, map, not}
use Rattle.std.specs.List.{AllByRecursion}
use Rattle.semver.specs.Identifiers.{parts_text}
use Rattle.rustsec_values.specs.Reading.{◌>>=◌, value_of}
use Rattle.rustsec_files.specs.Allowed.{Allowed}
use Rattle.rustsec_values.specs.Failure.{Failure, IsRefusal}
use Rattle.rustsec_values.specs.declared.error.ErrorKind.TheVariants as kind
use Rattle.rustsec_lock.specs.Package.{PackageValue}
use Rattle.rustsec_lock.specs.Source.{Source, is_default}
use Rattle.rustsec_registry.specs.Lookups.{listed}
use Rattle.rustsec_registry.specs.Packages.{AreDistinctPackages}
use Rattle.rustsec_registry.specs.Yanked.{missing_name, missing_version}
use Rattle.rustsec_registry.specs.declared.lookup.IndexVersion.{IndexVersion}
use Rattle.rustsec_registry.specs.index.IndexFolder.{IsAnswer, IsPlace}
use Rattle.rustsec_registry.specs.declared.index.place.Place.{Place}
use Rattle.rustsec_registry.specs.declared.index.yanked.YankedPackages.{YankedPackages}

-- ---- the packages that are asked

-- whether a source is the default registry, crates.io; a missing source is not
abbrev pub from_default : Option Source → Bool
from_default None = false
from_default (Some source) = is_default source

abbrev pub is_asked : PackageValue → Bool
is_asked p = from_default p.source

-- those of some packages whose source is the default registry
abbrev pub asked : List PackageValue → List PackageValue
asked packages = filter is_asked packages

-- ---- what the index lists

-- a package, and the versions that the index lists for its name, none if the name is missing
pub record Found : Type 0 where
  pub wanted : PackageValue
  pub versions : Option (List IndexVersion)

-- the file of its name lists these versions, or is missing
abbrev pub IsFound : Allowed → Place → Found → Type 0
IsFound allowed place f = IsAnswer allowed place (f.wanted.name) (Ok (f.versions))

-- the packages, without what is listed for them
abbrev pub packages_of : List Found → List PackageValue
packages_of found = map (λ (f : Found). f.wanted) found

-- ---- which packages are yanked, and which are unlisted

-- whether the last entry for the package's version says that it is yanked; none if the version is not listed
abbrev pub said_of : Found → Option Bool
said_of f = f.versions >>= λ versions. listed (parts_text f.wanted.version) versions

abbrev pub or_false : Option Bool → Bool
or_false None = false
or_false (Some yanked) = yanked

abbrev pub is_yanked : Found → Bool
is_yanked f = or_false (said_of f)

abbrev pub is_unlisted : Found → Bool
is_unlisted f = not (is_some (said_of f))

-- the packages that are yanked
abbrev pub yanked : List Found → List PackageValue
yanked found = packages_of (filter is_yanked found)

-- the text for a package that is not listed: its name is missing, or its version
abbrev pub missing_text : Found → List ℕ
missing_text f = if is_some f.versions then missing_version f.wanted else missing_name f.wanted

-- the texts for the packages that are not listed
abbrev pub unlisted : List Found → List (List ℕ)
unlisted found = map missing_text (filter is_unlisted found)

-- ---- the answer for packages

-- by an index in a folder: each distinct package is found; those that are yanked are given, and the texts for those that
-- are not listed
pub record IsGivenFor (allowed : Allowed) (root : List ℕ) (packages : List PackageValue) (y : YankedPackages) : Type 0 where
  pub place : Place
  pub is_place : IsPlace allowed root place
  pub found : List Found
  pub are_distinct : AreDistinctPackages packages (packages_of found)
  pub are_found : AllByRecursion (IsFound allowed place) found
  pub packages_are : y.packages ≡ yanked found
  pub unlisted_are : y.unlisted ≡ unlisted found

-- the error for the first of the distinct packages whose file is damaged or cannot be read; those before it are found
pub record IsFirstError (allowed : Allowed) (place : Place) (packages : List PackageValue) (e : Failure) : Type 0 where
  pub found : List Found
  pub bad : PackageValue
  pub rest : List PackageValue
  pub are_distinct : AreDistinctPackages packages (packages_of found ++ bad ∷ rest)
  pub are_found : AllByRecursion (IsFound allowed place) found
  pub is_error : IsAnswer allowed place (bad.name) (Err e)

-- refused: Io if the folder cannot be listed; or that error; or out of memory
abbrev pub IsRefusedFor : Allowed → List ℕ → List PackageValue → Failure → Type 0
IsRefusedFor allowed root packages e =
    IsRefusal kind.Io (allowed.lists root None) e ⊎ ((place : Place) × IsPlace allowed root place × IsFirstError allowed place packages e)

-- the same, where only the packages of the default registry are asked
abbrev pub IsYankedIn : Allowed → List ℕ → List PackageValue → YankedPackages → Type 0
IsYankedIn allowed root packages y = IsGivenFor allowed root (asked packages) y

abbrev pub IsYankedRefusal : Allowed → List ℕ → List PackageValue → Failure → Type 0
IsYankedRefusal allowed root packages e = IsRefusedFor allowed root (asked packages) e

-- ---- the answers of a look-up, sorted

-- an answer that is a package, or that something is missing
abbrev pub IsTaken : Result PackageValue Failure → Type 0
IsTaken (Ok p) = ⊤
IsTaken (Err e) = e.kind ≡ kind.NotFound

-- the message of an error
abbrev pub message_of : Result PackageValue Failure → Option (List ℕ)
message_of (Ok p) = None
message_of (Err e) = Some e.message

-- the packages among answers, and the messages
abbrev pub packages_in : List (Result PackageValue Failure) → List PackageValue
packages_in answers = filter_map (λ (r : Result PackageValue Failure). value_of r) answers

abbrev pub messages_in : List (Result PackageValue Failure) → List (List ℕ)
messages_in answers = filter_map message_of answers

-- each answer is taken, into the packages or into the texts
pub record AreTaken (answers : List (Result PackageValue Failure)) (y : YankedPackages) : Type 0 where
  pub all : AllByRecursion IsTaken answers
  pub packages : y.packages ≡ packages_in answers
  pub unlisted : y.unlisted ≡ messages_in answers

-- the first answer that is another error
pub record IsFirstOther (answers : List (Result PackageValue Failure)) (e : Failure) : Type 0 where
  pub before : List (Result PackageValue Failure)
  pub after : List (Result PackageValue Failure)
  pub answers_are : answers ≡ before ++ Err e ∷ after
  pub all : AllByRecursion IsTaken before
  pub other : e.kind ≢ kind.NotFound
