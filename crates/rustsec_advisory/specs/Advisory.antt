-- The advisory of a text.
use Rattle.std.specs.Prelude.{◌≡◌, ◌++◌, ℕ, List, [], Option, Some, None, true, codes, nat_eq, if◌then◌else◌}
use Rattle.std.specs.List.{starts_with}
use Rattle.std.specs.Str.{trim_start}
use Rattle.toml.specs.Data.{Data, Members, as_table, get_member}
use Rattle.toml.specs.Parse.{parse_document}
use Rattle.rustsec_versions.specs.acceptance.Lists.{Lists, accepted}
use Rattle.rustsec_texts.specs.Parts.{FileParts, opening, parts_of}
use Rattle.rustsec_texts.specs.PatternCuts.{after_prefix}
use Rattle.rustsec_advisory.specs.Affected.{IsAffected}
use Rattle.rustsec_advisory.specs.declared.advisory.Advisory.{Advisory}
use Rattle.rustsec_advisory.specs.declared.affected.Affected.{Affected}
use Rattle.rustsec_toml.specs.Fields.{defaulted, required, unmarked}
use Rattle.rustsec_toml.specs.Places.{IsLineOf, place_past}
use Rattle.rustsec_advisory.specs.Requirements.{requirements_of}
use Rattle.rustsec_advisory.specs.Metadata.{IsMetadata}

-- the header that the front matter may leave out
abbrev pub header : List ℕ
header = codes "[advisory]"

-- the text of the document: the front matter, with the header and a line feed before it unless it begins with the
-- header
abbrev pub document_text : List ℕ → List ℕ
document_text front = if starts_with nat_eq front header then front else header ++ (codes "\n" ++ front)

-- the table `versions` gives these lists, which are accepted
pub record AreVersions (table : Members) (ls : Lists) : Type 0 where
  pub patched : required (requirements_of) (codes "patched") table ≡ Some ls.patched
  pub unaffected : defaulted [] (requirements_of) (codes "unaffected") table ≡ Some ls.unaffected
  pub accepted : accepted ls ≡ true

-- the table `affected`, if present
abbrev pub IsAffectedAt : Option Data → Option Affected → Type 0
IsAffectedAt None a = a ≡ None
IsAffectedAt (Some d) a = (t : Members) × (v : Affected) × ((as_table d ≡ Some t) × (IsAffected t v × (a ≡ Some v)))

-- the document is this advisory's, with this title and description
pub record IsOfDocument (document : Members) (title description : List ℕ) (a : Advisory) : Type 0 where
  pub advisory_table : Members
  pub advisory_at : required as_table (codes "advisory") document ≡ Some advisory_table
  pub metadata : IsMetadata advisory_table title description a.metadata
  pub versions_table : Members
  pub versions_at : required as_table (codes "versions") document ≡ Some versions_table
  pub versions : AreVersions versions_table a.versions
  pub affected : IsAffectedAt (get_member (codes "affected") document) a.affected

-- the text is this advisory's, and this is the document of its front matter
pub record IsAdvisoryWith (text : List ℕ) (document : Members) (a : Advisory) : Type 0 where
  pub parts : FileParts
  pub are_parts : parts_of text ≡ Some parts
  pub is_document : parse_document (document_text parts.front_matter) ≡ Some document
  pub is_of : IsOfDocument document parts.title parts.description a

-- the text is this advisory's
abbrev pub IsAdvisory : List ℕ → Advisory → Type 0
IsAdvisory text a = (document : Members) × IsAdvisoryWith text document a

-- ---- lines

-- the line of a text in which its front matter begins: after the opening, and after white space
abbrev pub IsFrontLine : List ℕ → ℕ → Type 0
IsFrontLine text line = (body before : List ℕ) → after_prefix opening text ≡ Some body → text ≡ before ++ trim_start body
    → line ≡ (place_past before).line

-- a line of a text that its front matter has
abbrev pub IsKeyLine : List ℕ → ℕ → Type 0
IsKeyLine text line = (p : FileParts) × ((parts_of text ≡ Some p) × ((start : ℕ) × (IsFrontLine text start × IsLineOf start (unmarked start p.front_matter) line)))
