-- The lockfile of a check with the graph of its packages, the older lockfile of its baseline, and which packages are yanked.
use Rattle.std.specs.Prelude.{◌≡◌, ℕ, List, Option, Some, None}
use Rattle.toml.specs.Data.{Members}
use Rattle.toml.specs.Parse.{parse_document}
use Rattle.rustsec_files.specs.Allowed.{Allowed}
use Rattle.rustsec_values.specs.Failure.{Failure}
use Rattle.rustsec_lock.specs.Lockfile.{IsLockfileAt, IsLockfileRefusal, packages_of}
use Rattle.rustsec_lock.specs.Package.{PackageValue}
use Rattle.rustsec_graph.specs.Graph.{GraphValue, graph_of}
use Rattle.rustsec_registry.specs.index.YankedPackages.{IsYankedIn, IsYankedRefusal}
use Rattle.rustsec_registry.specs.declared.index.yanked.YankedPackages.{YankedPackages}

-- a lockfile: its text, its packages and their graph
pub record LockedValue : Type 0 where
  pub text : List ℕ
  pub packages : List PackageValue
  pub graph : GraphValue

-- the lockfile of a TOML table: its packages, and the graph of both
abbrev pub IsLockedTable : Members → LockedValue → Type 0
IsLockedTable table l = (packages_of table ≡ Some l.packages) × (l.graph ≡ graph_of table l.packages)

-- the lockfile of a text
abbrev pub IsLockedText : List ℕ → LockedValue → Type 0
IsLockedText text l = (l.text ≡ text) × ((table : Members) × ((parse_document text ≡ Some table) × IsLockedTable table l))

-- the lockfile of a text that may be read at a path
abbrev pub IsLockedAt : Allowed → List ℕ → LockedValue → Type 0
IsLockedAt allowed path l = (text : List ℕ) × (allowed.reads path (Some text) × IsLockedText text l)

-- the packages of the older lockfile, if one is named
abbrev pub IsBaselineAt : Allowed → Option (List ℕ) → Option (List PackageValue) → Type 0
IsBaselineAt allowed None baseline = baseline ≡ None
IsBaselineAt allowed (Some path) baseline = (packages : List PackageValue) × (IsLockfileAt allowed path packages × (baseline ≡ Some packages))

abbrev pub IsBaselineRefusal : Allowed → Option (List ℕ) → Failure → Type 0
IsBaselineRefusal allowed None e = ⊥
IsBaselineRefusal allowed (Some path) e = IsLockfileRefusal allowed path e

-- which packages are yanked, if an index is asked
abbrev pub IsYankedAt : Allowed → Option (List ℕ) → List PackageValue → Option YankedPackages → Type 0
IsYankedAt allowed None packages yanked = yanked ≡ None
IsYankedAt allowed (Some index) packages yanked = (y : YankedPackages) × (IsYankedIn allowed index packages y × (yanked ≡ Some y))

abbrev pub IsIndexRefusal : Allowed → Option (List ℕ) → List PackageValue → Failure → Type 0
IsIndexRefusal allowed None packages e = ⊥
IsIndexRefusal allowed (Some index) packages e = IsYankedRefusal allowed index packages e

-- the files that a check looks at beside the policy and the database: those at the path of a lockfile and of an older one,
-- and in the folder of an index
pub record Places : Type 0 where
  pub lock : List ℕ
  pub baseline : Option (List ℕ)
  pub index : Option (List ℕ)

-- what they say: the lockfile, the packages of the older one, and which packages are yanked
pub record LoadedValue : Type 0 where
  pub locked : LockedValue
  pub baseline : Option (List PackageValue)
  pub yanked : Option YankedPackages

pub record AreLoadedAt (allowed : Allowed) (at : Places) (l : LoadedValue) : Type 0 where
  pub locked : IsLockedAt allowed at.lock l.locked
  pub baseline : IsBaselineAt allowed at.baseline l.baseline
  pub yanked : IsYankedAt allowed at.index l.locked.packages l.yanked

-- how they are refused: the lockfile is; it loads and the older one is; or both load and the index is
pub data IsLoadRefusal (allowed : Allowed) (at : Places) (e : Failure) : Type 0 where
  unlocked : IsLockfileRefusal allowed at.lock e → IsLoadRefusal allowed at e
  unbased : (l : LockedValue) → IsLockedAt allowed at.lock l → IsBaselineRefusal allowed at.baseline e → IsLoadRefusal allowed at e
  unindexed : (l : LockedValue) (b : Option (List PackageValue)) → IsLockedAt allowed at.lock l → IsBaselineAt allowed at.baseline b
      → IsIndexRefusal allowed at.index l.packages e → IsLoadRefusal allowed at e
