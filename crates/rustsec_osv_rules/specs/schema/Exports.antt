-- What an advisory has to be for its exported document to keep the OSV schema. It carries meaning: public contracts cite it.
use Rattle.std.specs.Prelude.{◌≡◌, ◌⊎◌, ℕ, List, true}
use Rattle.rustsec_lock.specs.declared.cvss.Cvss.{Cvss}
use Rattle.rustsec_lock.specs.declared.cvss.Cvss.TheVariants as cvss
use Rattle.rustsec_advisory.specs.declared.metadata.Metadata.{Metadata}
use Rattle.rustsec_json.specs.Codecs.{IfThere}
use Rattle.rustsec_osv.specs.Export.{noon}
use Rattle.rustsec_osv_rules.specs.schema.Texts.{is_id, is_one_line}
use Rattle.rustsec_osv_rules.specs.schema.Times.{IsTime}
use Rattle.rustsec_osv_rules.specs.schema.Vectors.{IsVector4}

-- a vector of version 3 is of 3.0 or 3.1, as each vector that was parsed; a vector of version 4, which is kept as a text, has the form of one
abbrev pub HasSchemaScore : Cvss → Type 0
HasSchemaScore (cvss.CvssV30 base) = (base.minor_version ≡ 0) ⊎ (base.minor_version ≡ 1)
HasSchemaScore (cvss.CvssV31 base) = (base.minor_version ≡ 0) ⊎ (base.minor_version ≡ 1)
HasSchemaScore (cvss.CvssV40 vector) = IsVector4 vector

-- a day whose noon is a time
abbrev pub HasNoon : List ℕ → Type 0
HasNoon date = IsTime (noon date)

-- the days of an advisory, as each advisory that was read from a text has them
pub record HasDays (m : Metadata) : Type 0 where
  pub date : HasNoon m.date
  pub withdrawn : IfThere HasNoon m.withdrawn

-- an advisory and the time of its change are as the schema asks: each field is what an export that does not keep the schema lacks
pub record IsForSchema (m : Metadata) (modified : List ℕ) : Type 0 where
  -- the ID begins with a prefix that the schema lists
  pub id : is_id m.id.text ≡ true
  -- the caller passes a time
  pub changed : IsTime modified
  -- the title has no carriage return and no line feed
  pub title : is_one_line m.title ≡ true
  pub cvss : IfThere HasSchemaScore m.cvss
