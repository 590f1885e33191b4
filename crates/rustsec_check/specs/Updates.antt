-- How a finding can be mended: the version to update to.
use Rattle.std.specs.Prelude.{◌≡◌, ◌==◌, ◌++◌, ◌⊎◌, ◌&&◌, ◌||◌, not, Bool, false, true, List, [], ◌∷◌, Option, None, Some, length, map}
use Rattle.std.specs.List.{filter, list_any}
use Rattle.semver.specs.Parse.{Parts}
use Rattle.rustsec_versions.specs.Equality.{lists_eq}
use Rattle.rustsec_versions.specs.acceptance.Lists.{Lists, affected}
use Rattle.rustsec_versions.specs.order.Precedence.{IsVersion, is_at_most}
use Rattle.rustsec_versions.specs.ranges.Ranges.{is_until}
use Rattle.rustsec_lock.specs.Package.{PackageValue}
use Rattle.rustsec_texts.specs.Ids.{IdValue}
use Rattle.rustsec_advisory.specs.declared.advisory.Advisory.{Advisory}
use Rattle.rustsec_database.specs.Query.{Asked, crate_scope}
use Rattle.rustsec_database.specs.Selects.{selects}
use Rattle.rustsec_report.specs.Report.{is_among}
use Rattle.rustsec_check.specs.Compatible.{is_compatible_with}
use Rattle.rustsec_check.specs.LeastFree.{IsLeastFree, is_affected}

-- how a finding can be mended: a version to update to, whether it is compatible with the locked one, and the ignored
-- advisories that move this answer
pub record UpdateValue : Type 0 where
  pub least_free : Option Parts
  pub is_compatible : Bool
  pub moved_by : List IdValue

-- the query for all advisories that count as vulnerabilities of a package, whichever versions, platforms and severity
-- they have
abbrev pub about : PackageValue → Asked
about p = record crate_scope { package_name = Some p.name; package_source = p.source }

-- these advisories
abbrev pub counting : List Advisory → PackageValue → List Advisory
counting advisories p = filter (selects (about p)) advisories

-- those that are not ignored
abbrev pub in_force : List IdValue → List Advisory → List Advisory
in_force ids advisories = filter (λ a. not (is_among ids a.metadata.id)) advisories

-- the requirements of advisories
abbrev pub lists_of : List Advisory → List Lists
lists_of advisories = map (λ (a : Advisory). a.versions) advisories

-- requirements that move an answer about a version: they leave affected a valid version, not below that one and below the
-- answer, if any, that none of those in force leave affected
pub record Moves (in_force : List Lists) (v : Parts) (answer : Option Parts) (ls : Lists) : Type 0 where
  pub at : Parts
  pub valid : IsVersion at
  pub from : is_at_most v at ≡ true
  pub below : is_until answer at ≡ true
  pub held : affected ls at ≡ true
  pub is_free : is_affected in_force at ≡ false

-- an ignored advisory that moves an answer
abbrev pub IsMover : List IdValue → List Lists → Parts → Option Parts → Advisory → Type 0
IsMover ids in_force v answer a = (is_among ids a.metadata.id ≡ true) × Moves in_force v answer a.versions

-- the IDs of the advisories that pass a test, in order
abbrev pub AreIdsOf : (Advisory → Type 0) → List Advisory → List IdValue → Type 0
AreIdsOf P [] ids = ids ≡ []
AreIdsOf P (a ∷ others) ids = (P a × (rest : List IdValue) × (ids ≡ a.metadata.id ∷ rest) × AreIdsOf P others rest) ⊎ ((¬ P a) × AreIdsOf P others ids)

-- how a version can be mended, if these advisories leave versions affected: a finding's own one, and those that count
pub record IsUpdateFor (ids : List IdValue) (own others : List Advisory) (v : Parts) (u : UpdateValue) : Type 0 where
  pub least_free : IsLeastFree (lists_of (own ++ others)) v u.least_free
  pub is_compatible : u.is_compatible ≡ is_compatible_with v u.least_free
  pub moved_by : AreIdsOf (IsMover ids (lists_of (own ++ in_force ids others)) v u.least_free) others u.moved_by

-- how the finding of an advisory about a package can be mended, if the advisories that count are these
abbrev pub IsUpdateBy : List IdValue → List Advisory → PackageValue → Advisory → UpdateValue → Type 0
IsUpdateBy ids others p a u = IsUpdateFor ids (a ∷ []) others p.version u

-- ---- what the findings about one package share, which only helps proofs

-- the ignored IDs, and the advisories that count
pub record CountedValue : Type 0 where
  pub ids : List IdValue
  pub others : List Advisory

-- those in force
abbrev pub AreInForce : List IdValue → List Advisory → List Advisory → Type 0
AreInForce ids others kept = kept ≡ in_force ids others

-- these, and how the package can be mended by the advisories that count alone
pub record AdviceValue : Type 0 where
  pub counted : CountedValue
  pub update : UpdateValue

abbrev pub IsAdvice : PackageValue → AdviceValue → Type 0
IsAdvice p v = IsUpdateFor v.counted.ids [] v.counted.others p.version v.update

-- whether an advisory leaves a version affected; none is left if there is no version
abbrev pub affects : Option Parts → Advisory → Bool
affects None a = false
affects (Some v) a = affected a.versions v

-- whether it is known that the answer is the same if an advisory counts too: it leaves the answer free, and either no
-- ignored advisory moves the answer, or one in force has the same requirements
abbrev pub is_same_with : AdviceValue → Advisory → Bool
is_same_with v a = not (affects v.update.least_free a)
    && (length v.update.moved_by == 0 || list_any (λ b. lists_eq b.versions a.versions) (in_force v.counted.ids v.counted.others))
