-- The advisories under a root that pass a test, beside the IDs and the latest date of all advisories there.
use Rattle.std.specs.Prelude.{◌≡◌, ◌⊎◌, ◌&&◌, ℕ, Bool, false, true, IfErr, IfOk, List, Option, Result, length, nat_eq}
use Rattle.std.specs.Cmp.Lexicographic.{pointwise}
use Rattle.std.specs.List.{filter, list_any}
use Rattle.rustsec_values.specs.Failure.{Failure, IsMemory}
use Rattle.rustsec_versions.specs.acceptance.Lists.{affected}
use Rattle.rustsec_versions.specs.ranges.Ranges.{is_until}
use Rattle.rustsec_lock.specs.Package.{PackageValue}
use Rattle.rustsec_texts.specs.IdOrder.{id_eq}
use Rattle.rustsec_texts.specs.Ids.{IdValue}
use Rattle.rustsec_advisory.specs.declared.advisory.Advisory.{Advisory}
use Rattle.rustsec_files.specs.Allowed.{Allowed}
use Rattle.rustsec_files.specs.declared.source_file.SourceFile.{SourceFile}
use Rattle.rustsec_database.specs.Latest.{last_date}
use Rattle.rustsec_database.specs.Loaded.{AreLoaded, IsAdded, IsFirstFault, has_id}
use Rattle.rustsec_database.specs.Opened.{AreOpened}
use Rattle.rustsec_database.specs.Spans.{span_of}

-- some advisories, some IDs, and a date, if any
pub record KeptValue : Type 0 where
  pub advisories : List Advisory
  pub ids : List IdValue
  pub last_date : Option (List ℕ)

-- what is kept of some advisories: those that pass a test, in their order; the IDs of all, each once; and the latest
-- date of all
pub record IsKept (test : Advisory → Bool) (all : List Advisory) (k : KeptValue) : Type 0 where
  pub advisories : k.advisories ≡ filter test all
  pub ids : (id : IdValue) → list_any (id_eq id) k.ids ≡ list_any (has_id id) all
  pub number : length k.ids ≡ length all
  pub last_date : k.last_date ≡ last_date all

-- what is kept of the advisories that are loaded from the files under a root
abbrev pub AreOpenedFor : Allowed → List ℕ → (Advisory → Bool) → KeptValue → Type 0
AreOpenedFor allowed root test k = (all : List Advisory) × (AreOpened allowed root all × IsKept test all k)

-- ---- which advisories affect a package of a lockfile

-- an advisory is about a package, and affects its version
abbrev pub touches : Advisory → PackageValue → Bool
touches a p = pointwise nat_eq a.metadata.«package» p.name && affected a.versions p.version

-- an advisory affects one of some packages
abbrev pub touches_any : List PackageValue → Advisory → Bool
touches_any packages a = list_any (touches a) packages

-- ---- which advisories bear on a package of a lockfile, whichever later version it is updated to

-- an advisory is about a package: it has its name
abbrev pub is_about : Advisory → PackageValue → Bool
is_about a p = pointwise nat_eq a.metadata.«package» p.name

-- an advisory bears on a package: it is about it, and the first patched requirement that is `>=` of a release alone, if any,
-- does not hold its version; where it does, it holds all later ones too
abbrev pub bears_on : Advisory → PackageValue → Bool
bears_on a p = is_about a p && is_until (span_of a.versions).fixed p.version

-- an advisory bears on one of some packages
abbrev pub bears_on_any : List PackageValue → Advisory → Bool
bears_on_any packages a = list_any (bears_on a) packages

-- a test passes each advisory that bears on one of some packages
abbrev pub PassesBearing : (Advisory → Bool) → List PackageValue → Type 0
PassesBearing test packages = (a : Advisory) → bears_on_any packages a ≡ true → test a ≡ true

-- ---- one file more, for the functions that opening calls

-- no advisory has an ID that is not one of these
abbrev pub HaveIdsAmong : List IdValue → List Advisory → Type 0
HaveIdsAmong ids advisories = (id : IdValue) → list_any (id_eq id) ids ≡ false → list_any (has_id id) advisories ≡ false

-- what is kept after one more file without fault
pub record IsKeptWith (test : Advisory → Bool) (all : List Advisory) (path text : List ℕ) (k : KeptValue) : Type 0 where
  pub place : Option ℕ
  pub more : List Advisory
  pub is_added : IsAdded all path text place more
  pub is_kept : IsKept test more k

-- the result of loading these files: what is kept of their advisories; the refusal of the first file at fault; or out of memory
abbrev pub IsKeptLoadOf : (Advisory → Bool) → List SourceFile → Result KeptValue Failure → Type 0
IsKeptLoadOf test files answer =
    IfOk answer (λ k. (all : List Advisory) × (AreLoaded files all × IsKept test all k)) × IfErr answer (λ e. IsFirstFault files e ⊎ IsMemory e)
