-- How the scores of severities are decided: each metric by its row, which has the metric's name and the letters of its
-- values. Vectors.antt says what a vector is; the scan accepts exactly the vectors (proofs/FieldLists.antt, VectorForms.antt).
use Rattle.std.specs.Prelude.{ℕ, ◌==◌, ◌&&◌, ◌||◌, Bool, false, List, [], ◌∷◌, Option, Some, None, codes, drop, if◌then◌else◌, length, nat_eq, option_and_then, option_map, unwrap_or}
use Rattle.std.specs.List.{list_all, list_any, slice_split, starts_with}
use Rattle.std.specs.Str.{bytes_eq}
use Rattle.rustsec_osv_rules.specs.schema.Names.{priorities}
use Rattle.rustsec_osv_rules.specs.schema.Texts.{is_one_of}

-- a metric's name with its colon, and the letters of its values
abbrev pub Row : Type 0
Row = List ℕ × List ℕ

-- whether a text is exactly one of these letters
abbrev pub is_letter : List ℕ → List ℕ → Bool
is_letter letters [] = false
is_letter letters (b ∷ []) = list_any (nat_eq b) letters
is_letter letters (b ∷ c ∷ more) = false

-- whether a text is a metric with one of its letters
abbrev pub is_metric : List ℕ → Row → Bool
is_metric text row = starts_with nat_eq text row.0 && is_letter row.1 (drop (length row.0) text)

-- whether a text is the metric of one of these rows
abbrev pub is_metric_of : List Row → List ℕ → Bool
is_metric_of rows text = list_any (is_metric text) rows

-- the parts of a text between its slashes
abbrev pub parts_of : List ℕ → List (List ℕ)
parts_of text = slice_split (λ b. b == 47) text

-- the text after a prefix, if it begins with the prefix
abbrev pub after_prefix : List ℕ → List ℕ → Option (List ℕ)
after_prefix prefix text = if starts_with nat_eq text prefix then Some (drop (length prefix) text) else None

-- ---- CVSS 2: metrics in any order

-- the metrics with letters
unfoldable pub rows_2 : List Row
rows_2 = (codes "AV:", codes "NAL") ∷ (codes "AC:", codes "LMH") ∷ (codes "Au:", codes "MSN") ∷ (codes "C:", codes "NPC") ∷ (codes "I:", codes "NPC")
    ∷ (codes "A:", codes "NPC") ∷ (codes "E:", codes "UFH") ∷ (codes "RL:", codes "WU") ∷ (codes "RC:", codes "C") ∷ (codes "CDP:", codes "NLH")
    ∷ (codes "TD:", codes "NLMH") ∷ (codes "CR:", codes "LMH") ∷ (codes "IR:", codes "LMH") ∷ (codes "AR:", codes "LMH") ∷ []

-- the metrics whose values have more letters
unfoldable pub words_2 : List (List ℕ)
words_2 = codes "E:POC" ∷ codes "E:ND" ∷ codes "RL:OF" ∷ codes "RL:TF" ∷ codes "RL:ND" ∷ codes "RC:UC" ∷ codes "RC:UR" ∷ codes "RC:ND"
    ∷ codes "CDP:LM" ∷ codes "CDP:MH" ∷ codes "CDP:ND" ∷ codes "TD:ND" ∷ codes "CR:ND" ∷ codes "IR:ND" ∷ codes "AR:ND" ∷ []

abbrev pub is_metric_2 : List ℕ → Bool
is_metric_2 text = is_metric_of rows_2 text || is_one_of words_2 text

abbrev pub is_vector_2 : List ℕ → Bool
is_vector_2 text = list_all is_metric_2 (parts_of text)

-- ---- CVSS 3: the version, then metrics in any order

unfoldable pub base_rows_3 : List Row
base_rows_3 = (codes "AV:", codes "NALP") ∷ (codes "AC:", codes "LH") ∷ (codes "PR:", codes "NLH") ∷ (codes "UI:", codes "NR") ∷ (codes "S:", codes "UC")
    ∷ (codes "C:", codes "NLH") ∷ (codes "I:", codes "NLH") ∷ (codes "A:", codes "NLH") ∷ []

unfoldable pub other_rows_3 : List Row
other_rows_3 = (codes "E:", codes "XUPFH") ∷ (codes "RL:", codes "XOTWU") ∷ (codes "RC:", codes "XURC") ∷ (codes "CR:", codes "XLMH")
    ∷ (codes "IR:", codes "XLMH") ∷ (codes "AR:", codes "XLMH") ∷ (codes "MAV:", codes "XNALP") ∷ (codes "MAC:", codes "XLH")
    ∷ (codes "MPR:", codes "XNLH") ∷ (codes "MUI:", codes "XNR") ∷ (codes "MS:", codes "XUC") ∷ (codes "MC:", codes "XNLH")
    ∷ (codes "MI:", codes "XNLH") ∷ (codes "MA:", codes "XNLH") ∷ []

abbrev pub is_metric_3 : List ℕ → Bool
is_metric_3 text = is_metric_of base_rows_3 text || is_metric_of other_rows_3 text

abbrev pub are_metrics_3 : List ℕ → Bool
are_metrics_3 text = list_all is_metric_3 (parts_of text)

-- whether metrics follow a version
abbrev pub is_version_3 : List ℕ → List ℕ → Bool
is_version_3 version text = unwrap_or (option_map are_metrics_3 (after_prefix version text)) false

abbrev pub is_vector_3 : List ℕ → Bool
is_vector_3 text = is_version_3 (codes "CVSS:3.0/") text || is_version_3 (codes "CVSS:3.1/") text

-- ---- CVSS 4: the version, each base metric in its order, then some of the others in theirs

unfoldable pub base_rows_4 : List Row
base_rows_4 = (codes "/AV:", codes "NALP") ∷ (codes "/AC:", codes "LH") ∷ (codes "/AT:", codes "NP") ∷ (codes "/PR:", codes "NLH") ∷ (codes "/UI:", codes "NPA")
    ∷ (codes "/VC:", codes "HLN") ∷ (codes "/VI:", codes "HLN") ∷ (codes "/VA:", codes "HLN") ∷ (codes "/SC:", codes "HLN") ∷ (codes "/SI:", codes "HLN")
    ∷ (codes "/SA:", codes "HLN") ∷ []

unfoldable pub threat_rows_4 : List Row
threat_rows_4 = (codes "/E:", codes "XAPU") ∷ (codes "/CR:", codes "XHML") ∷ (codes "/IR:", codes "XHML") ∷ (codes "/AR:", codes "XHML")
    ∷ (codes "/MAV:", codes "XNALP") ∷ (codes "/MAC:", codes "XLH") ∷ (codes "/MAT:", codes "XNP") ∷ (codes "/MPR:", codes "XNLH") ∷ (codes "/MUI:", codes "XNPA") ∷ []

unfoldable pub other_rows_4 : List Row
other_rows_4 = (codes "/MVC:", codes "XNLH") ∷ (codes "/MVI:", codes "XNLH") ∷ (codes "/MVA:", codes "XNLH") ∷ (codes "/MSC:", codes "XNLH")
    ∷ (codes "/MSI:", codes "XNLHS") ∷ (codes "/MSA:", codes "XNLHS") ∷ (codes "/S:", codes "XNP") ∷ (codes "/AU:", codes "XNY") ∷ (codes "/R:", codes "XAUI")
    ∷ (codes "/V:", codes "XDC") ∷ (codes "/RE:", codes "XLMH") ∷ []

-- the urgency of the provider, which comes last
unfoldable pub urgencies_4 : List (List ℕ)
urgencies_4 = codes "" ∷ codes "/U:X" ∷ codes "/U:Clear" ∷ codes "/U:Green" ∷ codes "/U:Amber" ∷ codes "/U:Red" ∷ []

-- the text after one of these letters at its beginning, if any
abbrev pub after_letter : List ℕ → List ℕ → Option (List ℕ)
after_letter letters [] = None
after_letter letters (b ∷ rest) = if list_any (nat_eq b) letters then Some rest else None

-- the text after a metric with one of its letters, if the text begins with it
abbrev pub after_metric : Row → List ℕ → Option (List ℕ)
after_metric row text = option_and_then (after_letter row.1) (after_prefix row.0 text)

-- the text after a metric, or the text itself if the metric is left out
abbrev pub after_optional : Row → List ℕ → List ℕ
after_optional row text = unwrap_or (after_metric row text) text

-- the text after each of these metrics, if it begins with all of them in order
abbrev pub after_each : List Row → List ℕ → Option (List ℕ)
after_each [] text = Some text
after_each (row ∷ rows) text = option_and_then (after_each rows) (after_metric row text)

-- the text after those of these metrics that are there, in order
abbrev pub after_optionals : List Row → List ℕ → List ℕ
after_optionals [] text = text
after_optionals (row ∷ rows) text = after_optionals rows (after_optional row text)

-- what may follow the base metrics
abbrev pub is_end_4 : List ℕ → Bool
is_end_4 text = is_one_of urgencies_4 (after_optionals other_rows_4 (after_optionals threat_rows_4 text))

abbrev pub is_vector_4 : List ℕ → Bool
is_vector_4 text = unwrap_or (option_map is_end_4 (option_and_then (after_each base_rows_4) (after_prefix (codes "CVSS:4.0") text))) false

-- ---- the score of a type

abbrev pub is_score : List ℕ → List ℕ → Bool
is_score kind score =
    (bytes_eq kind (codes "CVSS_V2") && is_vector_2 score) || ((bytes_eq kind (codes "CVSS_V3") && is_vector_3 score)
    || ((bytes_eq kind (codes "CVSS_V4") && is_vector_4 score) || (bytes_eq kind (codes "Ubuntu") && is_one_of priorities score)))
