-- The lists of requirements that the text of an advisory file gives, and whether they are accepted.
use Rattle.std.specs.Prelude.{◌≡◌, ℕ, List, [], Option, Some, true, codes}
use Rattle.toml.specs.Data.{Members, as_table, get_member}
use Rattle.toml.specs.Parse.{parse_document}
use Rattle.rustsec_versions.specs.acceptance.Lists.{Lists, accepted}
use Rattle.rustsec_toml.specs.Fields.{defaulted, required}
use Rattle.rustsec_texts.specs.Parts.{FileParts, parts_of}
use Rattle.rustsec_advisory.specs.Advisory.{IsAdvisory, IsAffectedAt, document_text}
use Rattle.rustsec_advisory.specs.Metadata.{IsMetadata}
use Rattle.rustsec_advisory.specs.Requirements.{requirements_of}
use Rattle.rustsec_advisory.specs.declared.advisory.Advisory.{Advisory}
use Rattle.rustsec_advisory.specs.declared.affected.Affected.{Affected}
use Rattle.rustsec_advisory.specs.declared.metadata.Metadata.{Metadata}

-- the text has all that an advisory has, with these lists of requirements, whether they are accepted or not
pub record HasLists (text : List ℕ) (ls : Lists) : Type 0 where
  pub parts : FileParts
  pub are_parts : parts_of text ≡ Some parts
  pub document : Members
  pub is_document : parse_document (document_text parts.front_matter) ≡ Some document
  pub advisory_table : Members
  pub advisory_at : required as_table (codes "advisory") document ≡ Some advisory_table
  pub metadata : Metadata
  pub is_metadata : IsMetadata advisory_table parts.title parts.description metadata
  pub versions_table : Members
  pub versions_at : required as_table (codes "versions") document ≡ Some versions_table
  pub patched : required (requirements_of) (codes "patched") versions_table ≡ Some ls.patched
  pub unaffected : defaulted [] (requirements_of) (codes "unaffected") versions_table ≡ Some ls.unaffected
  pub affected : Option Affected
  pub is_affected : IsAffectedAt (get_member (codes "affected") document) affected

-- the text has lists of admissible requirements, and no two clash
abbrev pub HasAcceptedLists : List ℕ → Type 0
HasAcceptedLists text = (ls : Lists) × HasLists text ls × (accepted ls ≡ true)

-- a text with accepted lists is an advisory
abbrev pub IsAdvisoryIfAccepted : List ℕ → Type 0
IsAdvisoryIfAccepted text = (ls : Lists) → HasLists text ls → accepted ls ≡ true → (a : Advisory) × IsAdvisory text a
