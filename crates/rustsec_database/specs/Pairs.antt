-- The pairs of a package and an advisory that a query finds, and the vulnerability of a pair.
use Rattle.std.specs.Prelude.{Bool, false, List, Option, Some, None, ◌&&◌, map}
use Rattle.std.specs.List.{filter, flat_map}
use Rattle.rustsec_lock.specs.Package.{PackageValue}
use Rattle.rustsec_lock.specs.Source.{Source, is_default}
use Rattle.rustsec_advisory.specs.declared.advisory.Advisory.{Advisory}
use Rattle.rustsec_database.specs.declared.vulnerability.Vulnerability.{Vulnerability}
use Rattle.rustsec_database.specs.Query.{Asked, of_package}
use Rattle.rustsec_database.specs.Selects.{selects}

-- a package and an advisory
pub record Pair : Type 0 where
  pub of : PackageValue
  pub by : Advisory

-- a source that is present and is one of the two default registries: the index in git or the sparse one
abbrev pub is_default_there : Option Source → Bool
is_default_there None = false
is_default_there (Some s) = is_default s

-- a package is audited if its source is one of these two
abbrev pub is_audited : PackageValue → Bool
is_audited p = is_default_there p.source

-- whether a query finds an advisory for a package
abbrev pub finds : Asked → PackageValue → Advisory → Bool
finds q p a = is_audited p && selects (of_package q p) a

-- the pairs of one package, in the order of the advisories
abbrev pub pairs_of : List Advisory → Asked → PackageValue → List Pair
pairs_of advisories q p = map (λ a. record { of = p; by = a }) (filter (finds q p) advisories)

-- all pairs: packages in their order, and for each the advisories in theirs. What is in a list twice is found twice
unfoldable pub pairs : List Advisory → List PackageValue → Asked → List Pair
pairs advisories packages q = flat_map (pairs_of advisories q) packages

-- the vulnerability of an advisory and a package that it affects
abbrev pub vulnerability_of : Advisory → PackageValue → Vulnerability
vulnerability_of a p = record { advisory = a.metadata; versions = a.versions; affected = a.affected; «package» = p }

-- a pair as a vulnerability
abbrev pub as_vulnerability : Pair → Vulnerability
as_vulnerability pair = vulnerability_of pair.by pair.of
