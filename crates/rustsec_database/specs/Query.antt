-- A query, field by field. A field that is not set has no effect.
use Rattle.std.specs.Prelude.{ℕ, Bool, false, List, [], Option, Some, None}
use Rattle.semver.specs.Parse.{Parts}
use Rattle.rustsec_lock.specs.Package.{PackageValue}
use Rattle.rustsec_lock.specs.Source.{Source}
use Rattle.rustsec_lock.specs.declared.platforms.Arch.{Arch}
use Rattle.rustsec_lock.specs.declared.platforms.OS.{OS}
use Rattle.rustsec_lock.specs.declared.severity.Severity.{Severity}
use Rattle.rustsec_texts.specs.declared.collection.Collection.{Collection}
use Rattle.rustsec_texts.specs.declared.collection.Collection.TheVariants as collection

pub record Asked : Type 0 where
  -- the collection
  pub collection : Option Collection
  -- the name of the package
  pub package_name : Option (List ℕ)
  -- the version of the package
  pub package_version : Option Parts
  -- where the package comes from
  pub package_source : Option Source
  -- the least severity
  pub severity : Option Severity
  -- the architectures, an advisory must affect one; an empty list has no effect
  pub target_arch : List Arch
  -- the systems, likewise
  pub target_os : List OS
  -- the year of the ID
  pub year : Option ℕ
  -- whether withdrawn ones are asked for, or the others
  pub withdrawn : Option Bool
  -- whether informational ones are asked for, or the others
  pub informational : Option Bool

-- the query without any field set
abbrev pub unset : Asked
unset = record {
  collection = None;
  package_name = None;
  package_version = None;
  package_source = None;
  severity = None;
  target_arch = [];
  target_os = [];
  year = None;
  withdrawn = None;
  informational = None;
}

-- the query for vulnerabilities of published packages: the collection of crates, neither withdrawn nor informational
abbrev pub crate_scope : Asked
crate_scope = record unset { collection = Some collection.Crates; withdrawn = Some false; informational = Some false }

-- a query with the name, the version and the source of a package; a missing source leaves the source unset
abbrev pub of_package : Asked → PackageValue → Asked
of_package q p = record q { package_name = Some p.name; package_version = Some p.version; package_source = p.source }
