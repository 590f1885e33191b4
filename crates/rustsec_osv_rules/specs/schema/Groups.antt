-- The rules of a document as the decision asks them: times and scores by their scans, and all rules in two groups.
use Rattle.std.specs.Prelude.{◌&&◌, ℕ, Bool, false, List, Option, Some, None, codes}
use Rattle.serde_json.specs.Data.{Data}
use Rattle.rustsec_osv_rules.specs.schema.Names.{document_keys}
use Rattle.rustsec_osv_rules.specs.schema.Schema.{are_texts, has_one_place_of_severity, is_credit, is_package, is_range, is_reference, text_at}
use Rattle.rustsec_osv_rules.specs.schema.Texts.{is_id, is_one_line}
use Rattle.rustsec_osv_rules.specs.schema.TimeScan.{is_time}
use Rattle.rustsec_osv_rules.specs.schema.Values.{is_object, is_text, list_of, object_of, optional, or_null, required, text_of}
use Rattle.rustsec_osv_rules.specs.schema.VectorScan.{is_score}

-- ---- severities and members

-- whether both texts are there, and the score is one of the type
abbrev pub are_scored : Option (List ℕ) → Option (List ℕ) → Bool
are_scored None score = false
are_scored (Some kind) None = false
are_scored (Some kind) (Some score) = is_score kind score

abbrev pub is_severity : Data → Bool
is_severity d = are_scored (text_at (codes "type") d) (text_at (codes "score") d)

abbrev pub are_severities : Data → Bool
are_severities d = or_null (list_of is_severity) d

abbrev pub is_affected : Data → Bool
is_affected d = is_object d && (optional (codes "package") is_package d && (optional (codes "severity") are_severities d
    && (optional (codes "ranges") (list_of is_range) d && (optional (codes "versions") (list_of is_text) d
    && (optional (codes "ecosystem_specific") is_object d && optional (codes "database_specific") is_object d)))))

-- ---- the document

-- the keys with texts
abbrev pub keeps_texts : Data → Bool
keeps_texts d = optional (codes "schema_version") is_text d && (required (codes "id") (text_of is_id) d
    && (required (codes "modified") (text_of is_time) d && (optional (codes "published") (text_of is_time) d
    && (optional (codes "withdrawn") (text_of is_time) d && (optional (codes "summary") (text_of is_one_line) d
    && optional (codes "details") is_text d)))))

-- the keys with lists, and the object
abbrev pub keeps_lists : Data → Bool
keeps_lists d = optional (codes "aliases") are_texts d && (optional (codes "related") are_texts d && (optional (codes "upstream") are_texts d
    && (optional (codes "severity") are_severities d && (optional (codes "affected") (or_null (list_of is_affected)) d
    && (has_one_place_of_severity d && (optional (codes "references") (or_null (list_of is_reference)) d
    && (optional (codes "credits") (list_of is_credit) d && optional (codes "database_specific") is_object d)))))))

abbrev pub keeps_all : Data → Bool
keeps_all d = object_of document_keys d && (keeps_texts d && keeps_lists d)
