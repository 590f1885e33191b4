-- The JSON text of a report, part by part. It helps proofs alone: the text is that of the report's tree.
use Rattle.std.specs.Prelude.{ℕ, Bool, true, if◌then◌else◌, List, [], ◌∷◌, ◌++◌, Option, Some, None, codes, flat_map, map}
use denote.Enum.Bare.{sameb}
use Rattle.serde_json.specs.Data.{Data, boolean, number, unsigned}
use Rattle.serde_json.specs.Written.{comma_if, compact_text}
use Rattle.rustsec_texts.specs.WarningKinds.{warning_kind_name}
use Rattle.rustsec_texts.specs.contracts.warning_kind.WarningKind.{the_type as warning_kind}
use Rattle.rustsec_texts.specs.declared.warning_kind.WarningKind.{WarningKind}
use Rattle.rustsec_report.specs.Trees.{kinds_of_warnings, lockfile_tree, object_of, settings_tree, vulnerability_tree, warning_tree}
use Rattle.rustsec_report.specs.declared.info.VulnerabilityInfo.{VulnerabilityInfo}
use Rattle.rustsec_report.specs.declared.report.Report.{Report}
use Rattle.rustsec_report.specs.declared.report_json.Key.{Key}
use Rattle.rustsec_report.specs.declared.report_json.Key.TheVariants as key
use Rattle.rustsec_report.specs.declared.warning.Warning.{Warning}

-- the texts of parts, each after a comma
abbrev pub later_texts : {A : Type 0} → (A → Data) → List A → List ℕ
later_texts tree xs = flat_map (λ x. codes "," ++ compact_text (tree x)) xs

-- a list of parts
abbrev pub list_text : {A : Type 0} → (A → Data) → List A → List ℕ
list_text tree [] = codes "[]"
list_text tree (x ∷ xs) = codes "[" ++ (compact_text (tree x) ++ (later_texts tree xs ++ codes "]"))

-- the vulnerabilities of a report
unfoldable pub vulnerabilities_text : VulnerabilityInfo → List ℕ
vulnerabilities_text i =
    codes "{\"count\":" ++ (compact_text (number (unsigned i.count))
    ++ (codes ",\"found\":" ++ (compact_text (boolean i.found)
    ++ (codes ",\"list\":" ++ (list_text vulnerability_tree i.list ++ codes "}")))))

-- the last list of a kind, or else this one
abbrev pub last_list : WarningKind → Option (List Warning) → List (WarningKind × List Warning) → Option (List Warning)
last_list k last [] = last
last_list k last (e ∷ es) = last_list k (if sameb warning_kind e.0 k then Some e.1 else last) es

-- the keys and the lists of these kinds, without those that have none, up to the closing brace
abbrev pub rows_text : Bool → List (WarningKind × Option (List Warning)) → List ℕ
rows_text later [] = codes "}"
rows_text later ((k, None) ∷ rs) = rows_text later rs
rows_text later ((k, Some ws) ∷ rs) =
    comma_if later ++ (codes "\"" ++ (warning_kind_name k ++ (codes "\":" ++ (list_text warning_tree ws ++ rows_text true rs))))

abbrev pub kinds_text : Bool → List (WarningKind × List Warning) → List WarningKind → List ℕ
kinds_text later ws ks = rows_text later (map (λ k. (k, last_list k None ws)) ks)

-- a key of a report, with what is before it
unfoldable pub key_text : Key → List ℕ
key_text key.Lockfile = codes "{\"lockfile\":"
key_text key.Settings = codes ",\"settings\":"
key_text key.Vulnerabilities = codes ",\"vulnerabilities\":"
key_text key.Warnings = codes ",\"warnings\":"

-- what a report begins with: its lockfile and its settings
unfoldable pub beginning_text : Report → List ℕ
beginning_text r = key_text key.Lockfile ++ (compact_text (lockfile_tree r.lockfile) ++ (key_text key.Settings ++ compact_text (settings_tree r.settings)))

-- what it ends with: its vulnerabilities and its warnings
unfoldable pub ending_text : Report → List ℕ
ending_text r =
    key_text key.Vulnerabilities ++ (vulnerabilities_text r.vulnerabilities
    ++ (key_text key.Warnings ++ (compact_text (object_of (kinds_of_warnings r.warnings)) ++ codes "}")))
