-- An OSV document, as contracts see it: the version of the schema by its parts, all else by the fields.
use Rattle.std.specs.Prelude.{ℕ, List, map, Option}
use Rattle.semver.specs.Parse.{Parts}
use Rattle.rustsec_texts.specs.Ids.{IdValue}
use Rattle.rustsec_osv.specs.DocumentEvents.{JsonRange}
use Rattle.rustsec_osv.specs.declared.affected.OsvAffected.{OsvAffected}
use Rattle.rustsec_osv.specs.declared.document.MainOsvDatabaseSpecific.{MainOsvDatabaseSpecific}
use Rattle.rustsec_osv.specs.declared.reference.OsvReference.{OsvReference}
use Rattle.rustsec_osv.specs.declared.severity.OsvSeverity.{OsvSeverity}

-- a document
pub record Document : Type 0 where
  pub schema_version : Option Parts
  pub id : IdValue
  pub modified : List ℕ
  pub published : List ℕ
  pub withdrawn : Option (List ℕ)
  pub aliases : List IdValue
  pub related : List IdValue
  pub summary : List ℕ
  pub details : List ℕ
  pub severity : List OsvSeverity
  pub affected : List OsvAffected
  pub references : List OsvReference
  pub database_specific : MainOsvDatabaseSpecific

-- the ranges of its members of `affected`, in order
abbrev pub ranges_of : Document → List (Option (List JsonRange))
ranges_of d = map (λ (a : OsvAffected). a.ranges) d.affected
