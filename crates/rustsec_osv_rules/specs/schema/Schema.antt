-- The OSV schema 1.7.0 as one definition: the rules of its `validation/schema.json`, and those that its text adds, where
-- a comment says "text". docs/OSV-SCHEMA.md goes through it. It carries meaning: public contracts cite it.
use Rattle.std.specs.Prelude.{◌≡◌, ◌==◌, ℕ, Bool, true, ◌&&◌, ◌||◌, not, List, Option, Some, codes, option_and_then}
use Rattle.std.specs.List.{count_by}
use Rattle.std.specs.Str.{bytes_eq}
use Rattle.serde_json.specs.Data.{Data}
use Rattle.serde_json.specs.Find.{as_str, get}
use Rattle.rustsec_osv_rules.specs.schema.Names.{credit_types, document_keys, event_keys, range_types, reference_types}
use Rattle.rustsec_osv_rules.specs.schema.Texts.{is_ecosystem, is_id, is_one_line, is_one_of}
use Rattle.rustsec_osv_rules.specs.schema.Times.{IsTime}
use Rattle.rustsec_osv_rules.specs.schema.Values.{ListOf, Optional, OrNull, Required, TextOf, has, is_null, is_object, is_text, list_of, list_with, object_of, optional, or_null, required, text_of}
use Rattle.rustsec_osv_rules.specs.schema.Vectors.{IsScore}

-- ---- severity (`$defs.severity`)

-- the text at a key, if a text is there
abbrev pub text_at : List ℕ → Data → Option (List ℕ)
text_at key d = option_and_then as_str (get key d)

-- a severity: a type, and a score of that type
pub record IsSeverity (d : Data) : Type 0 where
  pub kind : List ℕ
  pub has_kind : text_at (codes "type") d ≡ Some kind
  pub score : List ℕ
  pub has_score : text_at (codes "score") d ≡ Some score
  pub is_score : IsScore kind score

abbrev pub AreSeverities : Data → Type 0
AreSeverities d = OrNull (ListOf IsSeverity) d

-- ---- ranges (`affected[].ranges[]`)

-- exactly one of the four keys of events is there (`oneOf`)
abbrev pub is_at_one_key : Data → Bool
is_at_one_key d = count_by (λ key. has key d) event_keys == 1

-- and a text at it
abbrev pub is_event : Data → Bool
is_event d = is_at_one_key d && (optional (codes "introduced") is_text d && (optional (codes "fixed") is_text d
    && (optional (codes "last_affected") is_text d && optional (codes "limit") is_text d)))

-- whether an event of a list has a key
abbrev pub with_event : List ℕ → Data → Bool
with_event key d = list_with (has key) d

-- an event that is a fix is not beside one that is the last affected version
abbrev pub are_ends_alike : Data → Bool
are_ends_alike d = not (with_event (codes "fixed") d && with_event (codes "last_affected") d)

-- events, an introduction among them (`contains`), and ends of one kind
abbrev pub are_events : Data → Bool
are_events d = list_of is_event d && (with_event (codes "introduced") d && are_ends_alike d)

-- a range of commits names its repository
abbrev pub has_repository : Data → Bool
has_repository d = not (required (codes "type") (text_of (bytes_eq (codes "GIT"))) d) || has (codes "repo") d

abbrev pub is_range : Data → Bool
is_range d = required (codes "type") (text_of (is_one_of range_types)) d && (required (codes "events") are_events d
    && (has_repository d && (optional (codes "repo") is_text d && optional (codes "database_specific") is_object d)))

-- ---- affected packages (`affected[]`)

abbrev pub is_package : Data → Bool
is_package d = required (codes "ecosystem") (text_of is_ecosystem) d && (required (codes "name") is_text d && optional (codes "purl") is_text d)

pub record IsAffected (d : Data) : Type 0 where
  pub object : is_object d ≡ true
  pub «package» : optional (codes "package") is_package d ≡ true
  pub severity : Optional (codes "severity") AreSeverities d
  pub ranges : optional (codes "ranges") (list_of is_range) d ≡ true
  pub versions : optional (codes "versions") (list_of is_text) d ≡ true
  pub ecosystem_specific : optional (codes "ecosystem_specific") is_object d ≡ true
  pub database_specific : optional (codes "database_specific") is_object d ≡ true

-- a member without a severity of its own
abbrev pub has_no_severity : Data → Bool
has_no_severity d = optional (codes "severity") is_null d

-- ---- references and credits

abbrev pub is_reference : Data → Bool
is_reference d = required (codes "type") (text_of (is_one_of reference_types)) d && required (codes "url") is_text d

abbrev pub is_credit : Data → Bool
is_credit d = required (codes "name") is_text d && (optional (codes "contact") (list_of is_text) d && optional (codes "type") (text_of (is_one_of credit_types)) d)

-- ---- the document

-- a list of texts, or null
abbrev pub are_texts : Data → Bool
are_texts d = or_null (list_of is_text) d

-- a severity of the whole document leaves none to its members
abbrev pub has_one_place_of_severity : Data → Bool
has_one_place_of_severity d = not (has (codes "severity") d) || optional (codes "affected") (or_null (list_of has_no_severity)) d

-- a document keeps each rule of the schema
pub record IsOsvSchema (d : Data) : Type 0 where
  -- the keys: no others (`additionalProperties`)
  pub keys : object_of document_keys d ≡ true
  pub schema_version : optional (codes "schema_version") is_text d ≡ true
  -- required
  pub id : required (codes "id") (text_of is_id) d ≡ true
  pub modified : Required (codes "modified") (TextOf IsTime) d
  pub published : Optional (codes "published") (TextOf IsTime) d
  pub withdrawn : Optional (codes "withdrawn") (TextOf IsTime) d
  pub aliases : optional (codes "aliases") are_texts d ≡ true
  pub related : optional (codes "related") are_texts d ≡ true
  pub upstream : optional (codes "upstream") are_texts d ≡ true
  -- one line (text)
  pub summary : optional (codes "summary") (text_of is_one_line) d ≡ true
  pub details : optional (codes "details") is_text d ≡ true
  pub severity : Optional (codes "severity") AreSeverities d
  pub affected : Optional (codes "affected") (OrNull (ListOf IsAffected)) d
  pub one_severity : has_one_place_of_severity d ≡ true
  pub references : optional (codes "references") (or_null (list_of is_reference)) d ≡ true
  pub credits : optional (codes "credits") (list_of is_credit) d ≡ true
  pub database_specific : optional (codes "database_specific") is_object d ≡ true
