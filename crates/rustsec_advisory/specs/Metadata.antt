-- The table `advisory` of an advisory's document: a row for each key, with its kind of value and its default.
use Rattle.std.specs.Prelude.{◌≡◌, ℕ, List, [], false, Some, codes}
use Rattle.toml.specs.Data.{Members, as_bool, as_str}
use Rattle.rustsec_lock.specs.Cvss.{cvss_of}
use Rattle.rustsec_lock.specs.Names.{name_of}
use Rattle.rustsec_lock.specs.Source.{source_id_of}
use Rattle.rustsec_texts.specs.Categories.{category_of}
use Rattle.rustsec_texts.specs.Collections.{collection_of}
use Rattle.rustsec_texts.specs.Dates.{date_of}
use Rattle.rustsec_texts.specs.Ids.{id_of}
use Rattle.rustsec_texts.specs.Informational.{informational_of}
use Rattle.rustsec_texts.specs.Licenses.{default_license, license_of}
use Rattle.rustsec_texts.specs.Addresses.{address_of}
use Rattle.rustsec_advisory.specs.FieldGroups.{kinds_of, origin_of, subject_of, terms_of}
use Rattle.rustsec_advisory.specs.declared.metadata.Kinds.{Kinds}
use Rattle.rustsec_advisory.specs.declared.metadata.Metadata.{Metadata}
use Rattle.rustsec_advisory.specs.declared.metadata.Origin.{Origin}
use Rattle.rustsec_advisory.specs.declared.metadata.Subject.{Subject}
use Rattle.rustsec_advisory.specs.declared.metadata.Terms.{Terms}
use Rattle.rustsec_toml.specs.Fields.{defaulted, every, optional, required, text}

-- the subject in the table: names, package and day
pub record IsSubject (table : Members) (s : Subject) : Type 0 where
  pub id : required (text id_of) (codes "id") table ≡ Some s.id
  pub name : required (text name_of) (codes "package") table ≡ Some s.name
  pub date : required (text date_of) (codes "date") table ≡ Some s.date
  pub aliases : defaulted [] (every (text id_of)) (codes "aliases") table ≡ Some s.aliases
  pub related : defaulted [] (every (text id_of)) (codes "related") table ≡ Some s.related

-- the classification of the vulnerability
pub record AreKinds (table : Members) (k : Kinds) : Type 0 where
  pub collection : optional (text collection_of) (codes "collection") table ≡ Some k.collection
  pub categories : defaulted [] (every (text (λ t. Some (category_of t)))) (codes "categories") table ≡ Some k.categories
  pub keywords : defaulted [] (every (text (λ t. Some t))) (codes "keywords") table ≡ Some k.keywords
  pub cvss : optional (text cvss_of) (codes "cvss") table ≡ Some k.cvss
  pub informational : optional (text (λ t. Some (informational_of t))) (codes "informational") table ≡ Some k.informational

-- references, source and address
pub record IsOrigin (table : Members) (o : Origin) : Type 0 where
  pub references : defaulted [] (every (text address_of)) (codes "references") table ≡ Some o.references
  pub source : optional (text source_id_of) (codes "source") table ≡ Some o.source
  pub url : optional (text address_of) (codes "url") table ≡ Some o.url

-- withdrawal, license and expectation of deletion
pub record AreTerms (table : Members) (t : Terms) : Type 0 where
  pub withdrawn : optional (text date_of) (codes "withdrawn") table ≡ Some t.withdrawn
  pub license : defaulted default_license (text (λ t. Some (license_of t))) (codes "license") table ≡ Some t.license
  pub expect_deleted : defaulted false as_bool (codes "expect-deleted") table ≡ Some t.expect_deleted

-- the metadata of the table, with the title and the description of the text around it; in the table both are missing
-- or empty
pub record IsMetadata (table : Members) (title description : List ℕ) (m : Metadata) : Type 0 where
  pub no_title : defaulted [] as_str (codes "title") table ≡ Some []
  pub no_description : defaulted [] as_str (codes "description") table ≡ Some []
  pub title_is : m.title ≡ title
  pub description_is : m.description ≡ description
  pub subject : IsSubject table (subject_of m)
  pub kinds : AreKinds table (kinds_of m)
  pub origin : IsOrigin table (origin_of m)
  pub terms : AreTerms table (terms_of m)
