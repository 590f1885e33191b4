-- What contracts see of a check: what it looks at, and what it answers.
use Rattle.std.specs.Prelude.{ℕ, Bool, List, Option}
use Rattle.rustsec_lock.specs.Package.{PackageValue}
use Rattle.rustsec_graph.specs.Graph.{GraphValue}
use Rattle.rustsec_texts.specs.Ids.{IdValue}
use Rattle.rustsec_texts.specs.declared.warning_kind.WarningKind.{WarningKind}
use Rattle.rustsec_policy.specs.declared.choices.Denied.{Denied}
use Rattle.rustsec_advisory.specs.declared.advisory.Advisory.{Advisory}
use Rattle.rustsec_report.specs.declared.settings.Settings.{Settings}
use Rattle.rustsec_check.specs.Updates.{UpdateValue}

-- what a check looks at: a database, the packages of a lockfile and their graph, the settings of a report, which warnings
-- are denied, and the packages of an older lockfile, if any
pub record SubjectValue : Type 0 where
  pub advisories : List Advisory
  pub packages : List PackageValue
  pub graph : GraphValue
  pub settings : Settings
  pub denied : List Denied
  pub baseline : Option (List PackageValue)

-- a package at its place in the lockfile, an advisory that affects it, and the kind of the warning; a vulnerability has
-- no kind
pub record Found : Type 0 where
  pub kind : Option WarningKind
  pub advisory : Advisory
  pub «package» : PackageValue
  pub place : ℕ

pub record FindingValue : Type 0 where
  pub kind : Option WarningKind
  pub advisory : Advisory
  pub «package» : PackageValue
  pub place : ℕ
  pub is_denied : Bool
  pub is_old : Bool
  pub path : Option (List ℕ)
  pub dependents : List ℕ
  pub update : UpdateValue

-- a pair that would be a finding if its advisory were not ignored
pub record IgnoredValue : Type 0 where
  pub kind : Option WarningKind
  pub advisory : Advisory
  pub «package» : PackageValue

-- a package that is yanked from its registry
pub record YankedValue : Type 0 where
  pub «package» : PackageValue
  pub place : ℕ
  pub is_denied : Bool
  pub is_old : Bool
  pub path : Option (List ℕ)
  pub dependents : List ℕ

pub record CheckValue : Type 0 where
  pub findings : List FindingValue
  pub ignored : List IgnoredValue
  pub unused : List IdValue
  pub unknown : List IdValue
  pub below_threshold : ℕ
