-- The log of a check has no float, so that its text is known.
use Rattle.std.proofs.Common.{◌≡◌, ℕ, List, [], ◌∷◌, ◌++◌, false, map, Option, None, Some, refl}
use Rattle.std.specs.Prelude.{codes}
use Rattle.serde_json.specs.Data.{Data, array}
use Rattle.serde_json.specs.View.{items_of}
use Rattle.serde_json.specs.Written.{has_float, items_have_float}
use Rattle.rustsec_json.specs.Trees.{text_tree}
use Rattle.rustsec_check.specs.Values.{FindingValue, YankedValue}
use Rattle.rustsec_check_output.specs.CheckTree.{WrittenValue, kind_text, tenths_of}
use Rattle.rustsec_report.proofs.PlainTrees.{AllPlain, Plain, list-plain, neither, object-plain}
use Rattle.rustsec_toml.specs.declared.place.Place.{Place}
use Rattle.rustsec_sarif.specs.SarifTree.{FileValue, SaidValue, address_entries, all_said, artifact_entries, driver_entries, file_of, fingerprint_entries, help_words, location_tree, log_entries, message_tree, package_place, physical_entries, properties_entries, properties_tree, region_entries, result_entries, result_tree, rule_entries, rule_tree, rule_trees, ruled, run_entries, run_tree, sarif_tree, severity_entries, tool_tree, yanked_entries, yanked_id, yanked_of, yanked_rule_tree, yanked_rules}
use Rattle.rustsec_sarif.specs.SarifWords.{long_words, short_words}

-- ---- lists of trees

abbrev AllTrees : List Data → Type 0
AllTrees [] = Unit {0}
AllTrees (d ∷ ds) = Plain d × AllTrees ds

items-plain : (ds : List Data) → AllTrees ds → items_have_float (items_of ds) ≡ false
items-plain [] h = refl
items-plain (d ∷ ds) h = neither (has_float d) _ h.0 (items-plain ds h.1)

trees-plain : (ds : List Data) → AllTrees ds → Plain (array (items_of ds))
trees-plain ds h = items-plain ds h

append-trees : (ds es : List Data) → AllTrees ds → AllTrees es → AllTrees (ds ++ es)
append-trees [] es h k = k
append-trees (d ∷ ds) es h k = (h.0, append-trees ds es h.1 k)

map-trees : {A : Type 0} (tree : A → Data) → ((x : A) → Plain (tree x)) → (xs : List A) → AllTrees (map tree xs)
map-trees tree h [] = tt
map-trees tree h (x ∷ xs) = (h x, map-trees tree h xs)

-- ---- rules

message-plain : (text : List ℕ) → Plain (message_tree text)
message-plain text = object-plain _ (refl, tt)

severity-plain : (tenths : Option ℕ) → AllPlain (severity_entries tenths)
severity-plain None = tt
severity-plain (Some tenths) = (refl, tt)

address-plain : (address : Option (List ℕ)) → AllPlain (address_entries address)
address-plain None = tt
address-plain (Some address) = (refl, tt)

properties-plain : (kind : List ℕ) (tenths : Option ℕ) → Plain (properties_tree kind tenths)
properties-plain kind tenths =
    object-plain (properties_entries kind tenths) (list-plain text_tree (λ x. refl) (codes "security" ∷ kind ∷ []), severity-plain tenths)

rule-plain : (f : FindingValue) → Plain (rule_tree f)
unfolding rule_tree rule_entries
rule-plain f =
    let m = f.advisory.metadata in
    object-plain (rule_entries f)
    (message-plain (long_words m), (message-plain (help_words f.advisory), (refl, (properties-plain (kind_text f.kind) (tenths_of m), (message-plain (short_words m), address-plain m.url)))))

yanked-rule-plain : Plain yanked_rule_tree
unfolding yanked_rule_tree
yanked-rule-plain =
    object-plain yanked_entries (message-plain _, (message-plain _, (refl, (properties-plain yanked_id None, (message-plain _, tt)))))

yanked-rules-plain : (ys : List YankedValue) → AllTrees (yanked_rules ys)
yanked-rules-plain [] = tt
yanked-rules-plain (y ∷ ys) = (yanked-rule-plain, tt)

rules-plain : (w : WrittenValue) → AllTrees (rule_trees w)
rules-plain w = append-trees (map rule_tree (ruled w)) (yanked_rules (yanked_of w)) (map-trees rule_tree rule-plain (ruled w)) (yanked-rules-plain (yanked_of w))

-- ---- results

location-plain : (path : List ℕ) (p : Place) → Plain (location_tree path p)
location-plain path p =
    let artifact = object-plain (artifact_entries path) (refl, tt) in
    let region = object-plain (region_entries p) (refl, (refl, tt)) in
    object-plain _ (object-plain (physical_entries path p) (artifact, (region, tt)), tt)

result-plain : (file : FileValue) (s : SaidValue) → Plain (result_tree file s)
unfolding result_tree result_entries
result-plain file s =
    let locations = list-plain (location_tree file.path) (location-plain file.path) (package_place file.places file.count s.place ∷ []) in
    let fingerprint = object-plain (fingerprint_entries s.rule s.«package») (refl, tt) in
    object-plain (result_entries file s) (refl, (locations, (message-plain s.message, (fingerprint, (refl, (refl, tt))))))

-- ---- the log

tool-plain : (rules : List Data) → AllTrees rules → Plain (tool_tree rules)
tool-plain rules h = object-plain _ (object-plain (driver_entries rules) (refl, (refl, (trees-plain rules h, tt))), tt)

run-plain : (file : FileValue) (w : WrittenValue) → Plain (run_tree file w)
unfolding run_tree
run-plain file w =
    let results = list-plain (result_tree file) (result-plain file) (all_said w) in
    object-plain (run_entries file w) (refl, (results, (tool-plain (rule_trees w) (rules-plain w), tt)))

pub sarif_plain : (path : List ℕ) (places : List Place) (w : WrittenValue) → Plain (sarif_tree path places w)
unfolding sarif_tree
sarif_plain path places w =
    let run = run_tree (file_of path places w) w in
    object-plain (log_entries run) (refl, (trees-plain (run ∷ []) (run-plain (file_of path places w) w, tt), (refl, tt)))
