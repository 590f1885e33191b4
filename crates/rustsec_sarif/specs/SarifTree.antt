-- The log of a check in SARIF 2.1.0 (OASIS). Each object is a map, so its keys are in the order of their bytes.
use Rattle.std.specs.Prelude.{◌==◌, ◌++◌, ℕ, Bool, not, if◌then◌else◌, List, [], ◌∷◌, Option, Some, None, codes, length, map, nat_eq, slice_get, unwrap_or}
use Rattle.std.specs.Cmp.Lexicographic.{pointwise}
use Rattle.std.specs.List.{list_any, prefix_len}
use Rattle.serde_json.specs.Data.{Data, array, number, string, unsigned}
use Rattle.serde_json.specs.View.{items_of}
use Rattle.rustsec_lock.specs.Package.{PackageValue}
use Rattle.rustsec_advisory.specs.declared.advisory.Advisory.{Advisory}
use Rattle.rustsec_json.specs.Trees.{list_tree, text_tree}
use Rattle.rustsec_report.specs.Trees.{Entry, object_of}
use Rattle.rustsec_check.specs.Values.{FindingValue, YankedValue}
use Rattle.rustsec_check_output.specs.CheckTree.{WrittenValue, kind_text, score_text, tenths_of}
use Rattle.rustsec_toml.specs.Places.{beginning}
use Rattle.rustsec_toml.specs.declared.place.Place.{Place}
use Rattle.rustsec_sarif.specs.SarifWords.{address_uri, address_words, finding_words, fingerprint, level, long_words, patched_words, path_uri, short_words, yanked_words}

-- ---- the advisories of findings

-- whether two findings are about advisories with the same ID
abbrev pub is_same : FindingValue → FindingValue → Bool
is_same f g = pointwise nat_eq f.advisory.metadata.id.text g.advisory.metadata.id.text

-- a finding, unless an earlier one is about its advisory
abbrev pub if_first : List FindingValue → FindingValue → List FindingValue
if_first earlier f = if list_any (is_same f) earlier then [] else f ∷ []

-- of the findings after earlier ones, the first about each advisory
unfoldable pub firsts : List FindingValue → List FindingValue → List FindingValue
firsts earlier [] = []
firsts earlier (f ∷ fs) = if_first earlier f ++ firsts (earlier ++ f ∷ []) fs

-- the place of a finding's advisory among the rules: how many come before its own
abbrev pub rule_index : List FindingValue → FindingValue → ℕ
rule_index rules f = prefix_len (λ r. not (is_same f r)) rules

-- ---- rules (3.49)

-- a text for people (3.11, 3.12)
abbrev pub message_tree : List ℕ → Data
message_tree text = object_of ((codes "text", string text) ∷ [])

-- the severity as GitHub reads it: the CVSS base score
abbrev pub severity_entries : Option ℕ → List Entry
severity_entries None = []
severity_entries (Some tenths) = (codes "security-severity", string (score_text tenths)) ∷ []

-- the properties of a rule: its tags, and its severity, if any (3.8)
abbrev pub properties_entries : List ℕ → Option ℕ → List Entry
properties_entries kind tenths =
    (codes "tags", list_tree text_tree (codes "security" ∷ kind ∷ [])) ∷ severity_entries tenths

abbrev pub properties_tree : List ℕ → Option ℕ → Data
properties_tree kind tenths = object_of (properties_entries kind tenths)

abbrev pub address_entries : Option (List ℕ) → List Entry
address_entries None = []
address_entries (Some address) = (codes "helpUri", string (address_uri address)) ∷ []

-- how to mend what an advisory is about: the patched versions, and the advisory's address
unfoldable pub help_words : Advisory → List ℕ
help_words a = patched_words a.versions.patched ++ address_words a.metadata.url

-- what the rule of a finding's advisory says at length, and what it is
abbrev pub said_entries : FindingValue → List Entry
said_entries f =
    (codes "fullDescription", message_tree (long_words f.advisory.metadata))
    ∷ (codes "help", message_tree (help_words f.advisory))
    ∷ (codes "id", string f.advisory.metadata.id.text)
    ∷ []

abbrev pub class_entries : FindingValue → List Entry
class_entries f =
    (codes "properties", properties_tree (kind_text f.kind) (tenths_of f.advisory.metadata))
    ∷ (codes "shortDescription", message_tree (short_words f.advisory.metadata))
    ∷ address_entries f.advisory.metadata.url

-- the rule of the advisory of a finding
unfoldable pub rule_entries : FindingValue → List Entry
rule_entries f = said_entries f ++ class_entries f

unfoldable pub rule_tree : FindingValue → Data
rule_tree f = object_of (rule_entries f)

-- the rule of packages that are yanked
abbrev pub yanked_id : List ℕ
yanked_id = codes "yanked"

abbrev pub yanked_entries : List Entry
yanked_entries =
    (codes "fullDescription", message_tree (codes "The version of the package is yanked from its registry."))
    ∷ (codes "help", message_tree (codes "Choose a version that is not yanked."))
    ∷ (codes "id", string yanked_id)
    ∷ (codes "properties", properties_tree yanked_id None)
    ∷ (codes "shortDescription", message_tree (codes "Yanked package"))
    ∷ []

unfoldable pub yanked_rule_tree : Data
yanked_rule_tree = object_of yanked_entries

-- that rule, if a package is yanked
abbrev pub yanked_rules : List YankedValue → List Data
yanked_rules [] = []
yanked_rules (y ∷ ys) = yanked_rule_tree ∷ []

-- ---- places (3.29)

-- the place of the package at an index; the text's beginning, if the text has another number of headers than there are
-- packages
abbrev pub package_place : List Place → ℕ → ℕ → Place
package_place places count index =
    if length places == count then unwrap_or (slice_get places index) beginning else beginning

abbrev pub region_entries : Place → List Entry
region_entries p = (codes "startColumn", number (unsigned p.column)) ∷ (codes "startLine", number (unsigned p.line)) ∷ []

abbrev pub artifact_entries : List ℕ → List Entry
artifact_entries path = (codes "uri", string (path_uri path)) ∷ []

abbrev pub physical_entries : List ℕ → Place → List Entry
physical_entries path p =
    (codes "artifactLocation", object_of (artifact_entries path)) ∷ (codes "region", object_of (region_entries p)) ∷ []

abbrev pub location_tree : List ℕ → Place → Data
location_tree path p = object_of ((codes "physicalLocation", object_of (physical_entries path p)) ∷ [])

-- ---- results (3.27)

-- the lockfile that results are about: its path, the places of the headers in its text, and how many packages it has
pub record FileValue : Type 0 where
  pub path : List ℕ
  pub places : List Place
  pub count : ℕ

-- what is said about a package: the rule and its index, the level, the message, and the package at its index
pub record SaidValue : Type 0 where
  pub rule : List ℕ
  pub index : ℕ
  pub level : List ℕ
  pub message : List ℕ
  pub «package» : PackageValue
  pub place : ℕ

-- GitHub knows a result again by this key
abbrev pub fingerprint_entries : List ℕ → PackageValue → List Entry
fingerprint_entries rule p = (codes "primaryLocationLineHash", string (fingerprint rule p)) ∷ []

-- what a result says and where, and what it is known by
abbrev pub shown_entries : FileValue → SaidValue → List Entry
shown_entries file s =
    (codes "level", string s.level)
    ∷ (codes "locations", list_tree (location_tree file.path) (package_place file.places file.count s.place ∷ []))
    ∷ (codes "message", message_tree s.message)
    ∷ []

abbrev pub known_entries : SaidValue → List Entry
known_entries s =
    (codes "partialFingerprints", object_of (fingerprint_entries s.rule s.«package»))
    ∷ (codes "ruleId", string s.rule)
    ∷ (codes "ruleIndex", number (unsigned s.index))
    ∷ []

unfoldable pub result_entries : FileValue → SaidValue → List Entry
result_entries file s = shown_entries file s ++ known_entries s

unfoldable pub result_tree : FileValue → SaidValue → Data
result_tree file s = object_of (result_entries file s)

-- what a finding says, by the findings that have the rules
abbrev pub finding_said : List FindingValue → FindingValue → SaidValue
finding_said rules f = record {
  rule = f.advisory.metadata.id.text;
  index = rule_index rules f;
  level = level f.is_denied f.is_old;
  message = finding_words f;
  «package» = f.«package»;
  place = f.place;
}

-- what a yanked package says; its rule comes after the others
abbrev pub yanked_said : ℕ → YankedValue → SaidValue
yanked_said index y = record {
  rule = yanked_id;
  index = index;
  level = level y.is_denied y.is_old;
  message = yanked_words y;
  «package» = y.«package»;
  place = y.place;
}

-- ---- the log (3.13)

-- the packages that are yanked, none if no index was asked
abbrev pub yanked_of : WrittenValue → List YankedValue
yanked_of w = unwrap_or w.yanked []

-- the findings that have the rules
abbrev pub ruled : WrittenValue → List FindingValue
ruled w = firsts [] w.check.findings

-- the rule of each advisory, in the order in which they are first found, and that of yanked packages
abbrev pub rule_trees : WrittenValue → List Data
rule_trees w = map rule_tree (ruled w) ++ yanked_rules (yanked_of w)

-- the results of the findings, and those of the yanked packages
abbrev pub all_said : WrittenValue → List SaidValue
all_said w =
    map (finding_said (ruled w)) w.check.findings ++ map (yanked_said (length (ruled w))) (yanked_of w)

-- the program, with its rules (3.18, 3.19)
abbrev pub driver_entries : List Data → List Entry
driver_entries rules =
    (codes "informationUri", string (codes "https://rustsec.org"))
    ∷ (codes "name", string (codes "rustsec_audit"))
    ∷ (codes "rules", array (items_of rules))
    ∷ []

abbrev pub tool_tree : List Data → Data
tool_tree rules = object_of ((codes "driver", object_of (driver_entries rules)) ∷ [])

-- the run (3.14); a column counts characters
abbrev pub run_entries : FileValue → WrittenValue → List Entry
run_entries file w =
    (codes "columnKind", string (codes "unicodeCodePoints"))
    ∷ (codes "results", list_tree (result_tree file) (all_said w))
    ∷ (codes "tool", tool_tree (rule_trees w))
    ∷ []

unfoldable pub run_tree : FileValue → WrittenValue → Data
run_tree file w = object_of (run_entries file w)

abbrev pub file_of : List ℕ → List Place → WrittenValue → FileValue
file_of path places w = record { path = path; places = places; count = length w.packages }

abbrev pub schema : List ℕ
schema = codes "https://docs.oasis-open.org/sarif/sarif/v2.1.0/errata01/os/schemas/sarif-schema-2.1.0.json"

abbrev pub log_entries : Data → List Entry
log_entries run =
    (codes "$schema", string schema)
    ∷ (codes "runs", array (items_of (run ∷ [])))
    ∷ (codes "version", string (codes "2.1.0"))
    ∷ []

unfoldable pub sarif_tree : List ℕ → List Place → WrittenValue → Data
sarif_tree path places w = object_of (log_entries (run_tree (file_of path places w) w))
